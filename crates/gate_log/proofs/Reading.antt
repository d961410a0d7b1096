-- The records that a scan has come past.
use Rattle.std.proofs.Common.{◌≡◌, ℕ, ◌<◌, List, [], ◌∷◌, ◌++◌, length, map, take, drop, sym, ◌∙◌, ap, append_assoc, take-append-drop}
use Rattle.std.proofs.lemmas.List.{map-append, drop_at, append-nil}
use Rattle.gate_log.specs.declared.lengths.Lengths.{Lengths}
use Rattle.gate_log.specs.declared.scan.Place.{Place}
use Rattle.gate_log.specs.Records.{Record, size_of, body, spelled, AreBounded}
use Rattle.gate_log.specs.Logs.{Log}
use Rattle.gate_log.specs.Places.{end_from, size_at, sizes_at, AreTied}
use Rattle.gate_log.specs.Opening.{IsBroken}
use Rattle.gate_log.specs.Looking.{ClosedAt, OpenAt, BrokenAt}
use Rattle.gate_log.proofs.Rows.{spelled-push, bounded-push, length-front}
use Rattle.gate_log.proofs.Kept.{sizes_at-push}

-- they stand there, and what follows them begins at this place
pub record AreRead (mark bytes : List ℕ) (places : List Place) (at : ℕ) : Type 0 where
  pub records : List Record
  pub bounded : AreBounded records
  pub sized : map size_of records ≡ sizes_at places
  pub split : bytes ≡ mark ++ spelled records ++ drop at bytes

pub none_read : (bytes : List ℕ) (places : List Place) → 9 < length bytes → places ≡ [] → AreRead (take 8 bytes) bytes places 8
none_read bytes places longer none = record {
  records = [];
  bounded = tt;
  sized = ap (λ (l : List Place). sizes_at l) (sym none);
  split = sym (ap (λ (l : List ℕ). l ++ drop 8 bytes) (append-nil (take 8 bytes)) ∙ take-append-drop 8 bytes);
}

module _ (mark bytes : List ℕ) (eight : length mark ≡ 8) where
  -- the bytes up to them are as many as the places say
  pub length-read : (rs : List Record) (places : List Place) (at : ℕ) → map size_of rs ≡ sizes_at places → AreTied places at → length (mark ++ spelled rs) ≡ at
  length-read rs places at sized tied = length-front mark rs eight ∙ ap (λ (l : List (ℕ × ℕ)). end_from 8 l) sized ∙ sym tied.end_is

  pub more_read : (places after : List Place) (place : Place) (at next : ℕ) (lengths : Lengths) → after ≡ places ++ place ∷ [] → (lengths.head, lengths.payload) ≡ size_at place
      → AreTied after next → AreRead mark bytes places at → OpenAt at lengths bytes → AreRead mark bytes after next
  more_read places after place at next lengths is same tied read opened =
      let r : Record = record { head = opened.head; payload = opened.payload } in
      let rs = read.records in
      let behind = opened.fits.gate ∷ opened.fits.tail in
      let size : size_of r ≡ size_at place = ap (λ (k : ℕ). (k, length opened.payload)) opened.head_length ∙ ap (λ (k : ℕ). (lengths.head, k)) opened.payload_length ∙ same in
      let sized : map size_of (rs ++ r ∷ []) ≡ sizes_at after =
      map-append size_of rs (r ∷ []) ∙ ap (λ (l : List (ℕ × ℕ)). l ++ size_of r ∷ []) read.sized ∙ ap (λ (s : ℕ × ℕ). sizes_at places ++ s ∷ []) size ∙ sym (sizes_at-push places after place is) in
      let whole : bytes ≡ mark ++ spelled (rs ++ r ∷ []) ++ opened.fits.gate ∷ opened.fits.tail =
      read.split
      ∙ ap (λ (l : List ℕ). mark ++ spelled rs ++ l) (opened.split ∙ ap (λ (l : List ℕ). 165 ∷ l) opened.fits.split)
      ∙ append_assoc mark (spelled rs) (165 ∷ (body opened.head opened.payload ++ behind))
      ∙ ap (λ (l : List ℕ). mark ++ l) (sym (spelled-push rs r behind))
      ∙ sym (append_assoc mark (spelled (rs ++ r ∷ [])) behind) in
      let rest : drop next bytes ≡ opened.fits.gate ∷ opened.fits.tail =
      ap (λ (l : List ℕ). drop next l) whole ∙ drop_at (mark ++ spelled (rs ++ r ∷ [])) behind next (length-read (rs ++ r ∷ []) after next sized tied) in
      record {
        records = rs ++ r ∷ [];
        bounded = bounded-push rs r read.bounded opened.fits.bounded;
        sized = sized;
        split = whole ∙ ap (λ (l : List ℕ). mark ++ spelled (rs ++ r ∷ []) ++ l) (sym rest);
      }

  pub closed_read : (places : List Place) (at : ℕ) → AreRead mark bytes places at → ClosedAt at bytes → (rs : List Record) × (map size_of rs ≡ sizes_at places) × Log mark rs bytes
  closed_read places at read shut = (
    read.records,
    read.sized,
    record {
      eight = eight;
      bounded = read.bounded;
      gate = shut.gate;
      closed = shut.closed;
      tail = shut.tail;
      split = read.split ∙ ap (λ (l : List ℕ). mark ++ spelled read.records ++ l) shut.split;
    },
  )

  pub broken_read : (places : List Place) (at : ℕ) → 9 < length bytes → AreTied places at → AreRead mark bytes places at → BrokenAt at bytes → IsBroken mark bytes at
  broken_read places at longer tied read broken = record {
    longer = longer;
    records = read.records;
    bounded = read.bounded;
    rest = broken.rest;
    split = read.split ∙ ap (λ (l : List ℕ). mark ++ spelled read.records ++ l) broken.split;
    place = sym (length-read read.records places at read.sized tied);
    unfit = broken.unfit;
  }
