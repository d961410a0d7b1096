-- The lines of lanes and the counts of their calls, one by one.
use Rattle.std.proofs.Common.{◌≡◌, ℕ, zero, suc, ◌+◌, ◌<◌, ◌≤◌, Bool, true, false, cond, Option, Some, None, List, [], ◌∷◌, ◌++◌, length, length-append, get_or, take, flat_map, refl, sym, ap, subst, ◌∙◌, ⊎_elim, arith, append_assoc, append-nil}
use Rattle.std.specs.Prelude.{slice_get}
use Rattle.std.specs.List.{filter}
use Rattle.std.proofs.lemmas.List.{take_more}
use Rattle.std.proofs.lemmas.Option.{slice_get-get_or}
use Rattle.std.proofs.lemmas.List.Elements.{filter-append}
use Rattle.delf_model.specs.declared.schema.Schema.{Schema}
use Rattle.delf_model.specs.declared.script.Lane.{Lane}
use Rattle.delf_model.specs.declared.script.LaneCommand.{LaneCommand}
use Rattle.delf_service.specs.declared.replies.LaneOut.{LaneOut}
use Rattle.delf_service.specs.declared.replies.LaneReply.{LaneReply}
use Rattle.delf_service.proofs.Places.{push_cases}
use Rattle.documents.proofs.Places.{take_past}
use Rattle.documents.proofs.Turns.{lists_grow}
use Rattle.job_report.specs.Texts.{lane_text}
use Rattle.script_runner.specs.Blocks.{reply_line, lane_lines, lanes_lines, replies_of}

pub lane_none : (schema : Schema) (place : ℕ) (commands : List LaneCommand) → lane_lines schema place commands [] ≡ []
lane_none schema place [] = refl
lane_none schema place (c ∷ cs) = refl

pub lanes_none : (schema : Schema) (from : ℕ) (lanes : List Lane) → lanes_lines schema from lanes [] ≡ []
lanes_none schema from [] = refl
lanes_none schema from (l ∷ ls) = refl

-- one command more of a lane
pub lane_more : (schema : Schema) (place : ℕ) (commands : List LaneCommand) (replies : List LaneReply) (k : ℕ) (command : LaneCommand) (reply : LaneReply) →
    slice_get commands k ≡ Some command → slice_get replies k ≡ Some reply →
    lane_lines schema place commands (take (k + 1) replies) ≡ lane_lines schema place commands (take k replies) ++ lane_text place (reply_line schema command reply)
lane_more schema place [] replies k command reply at here = absurd (cc at)
lane_more schema place (c ∷ cs) [] k command reply at here = absurd (cc here)
lane_more schema place (c ∷ cs) (r ∷ rs) zero command reply at here =
    let one : c ≡ command = cc at in
    let two : r ≡ reply = cc here in
    ap (λ (t : List ℕ). lane_text place (reply_line schema c r) ++ t) (lane_none schema place cs)
    ∙ append-nil (lane_text place (reply_line schema c r)) ∙ ap (λ (x : LaneCommand). lane_text place (reply_line schema x r)) one
    ∙ ap (λ (x : LaneReply). lane_text place (reply_line schema command x)) two
lane_more schema place (c ∷ cs) (r ∷ rs) (suc k) command reply at here =
    let next : suc k + 1 ≡ suc (k + 1) = omega arith in
    ap (λ (n : ℕ). lane_lines schema place (c ∷ cs) (take n (r ∷ rs))) next
    ∙ ap (λ (t : List ℕ). lane_text place (reply_line schema c r) ++ t) (lane_more schema place cs rs k command reply at here)
    ∙ sym (append_assoc (lane_text place (reply_line schema c r)) (lane_lines schema place cs (take k rs)) (lane_text place (reply_line schema command reply)))

-- one lane more
pub lanes_more : (schema : Schema) (from : ℕ) (lanes : List Lane) (outs : List LaneOut) (k : ℕ) (one : Lane) (out : LaneOut) →
    slice_get lanes k ≡ Some one → slice_get outs k ≡ Some out →
    lanes_lines schema from lanes (take (k + 1) outs) ≡ lanes_lines schema from lanes (take k outs) ++ lane_lines schema (from + k) one.commands out.replies
lanes_more schema from [] outs k one out at here = absurd (cc at)
lanes_more schema from (l ∷ ls) [] k one out at here = absurd (cc here)
lanes_more schema from (l ∷ ls) (o ∷ os) zero one out at here =
    let first : l ≡ one = cc at in
    let second : o ≡ out = cc here in
    let place : from ≡ from + 0 = omega arith in
    ap (λ (t : List ℕ). lane_lines schema from l.commands o.replies ++ t) (lanes_none schema (from + 1) ls)
    ∙ append-nil (lane_lines schema from l.commands o.replies) ∙ ap (λ (x : Lane). lane_lines schema from x.commands o.replies) first
    ∙ ap (λ (x : LaneOut). lane_lines schema from one.commands x.replies) second ∙ ap (λ (n : ℕ). lane_lines schema n one.commands out.replies) place
lanes_more schema from (l ∷ ls) (o ∷ os) (suc k) one out at here =
    let next : suc k + 1 ≡ suc (k + 1) = omega arith in
    let place : (from + 1) + k ≡ from + suc k = omega arith in
    ap (λ (n : ℕ). lanes_lines schema from (l ∷ ls) (take n (o ∷ os))) next
    ∙ ap (λ (t : List ℕ). lane_lines schema from l.commands o.replies ++ t) (lanes_more schema (from + 1) ls os k one out at here)
    ∙ sym (append_assoc (lane_lines schema from l.commands o.replies) (lanes_lines schema (from + 1) ls (take k os)) (lane_lines schema ((from + 1) + k) one.commands out.replies))
    ∙ ap (λ (n : ℕ). lanes_lines schema from (l ∷ ls) (o ∷ take k os) ++ lane_lines schema n one.commands out.replies) place

-- the same, said of a text that grew by a line

pub place_is : {A : Type 0} (xs : List A) (k : ℕ) (x : A) → k < length xs → x ≡ get_or xs k x → slice_get xs k ≡ Some x
place_is xs k x below is = slice_get-get_or xs k x below ∙ ap (λ (y : _). Some y) (sym is)

pub lane_grows : (schema : Schema) (place : ℕ) (commands : List LaneCommand) (replies : List LaneReply) (k : ℕ) (command : LaneCommand) (reply : LaneReply)
    (before after line : List ℕ) → slice_get commands k ≡ Some command → slice_get replies k ≡ Some reply → before ≡ lane_lines schema place commands (take k replies) →
    line ≡ lane_text place (reply_line schema command reply) → after ≡ before ++ line → after ≡ lane_lines schema place commands (take (k + 1) replies)
lane_grows schema place commands replies k command reply before after line at here so_far said grown =
    grown ∙ ap (λ (t : List ℕ). t ++ line) so_far ∙ ap (λ (t : List ℕ). lane_lines schema place commands (take k replies) ++ t) said
    ∙ sym (lane_more schema place commands replies k command reply at here)

pub lanes_grow : (schema : Schema) (lanes : List Lane) (outs : List LaneOut) (k : ℕ) (one : Lane) (out : LaneOut) (before after lines : List ℕ) →
    slice_get lanes k ≡ Some one → slice_get outs k ≡ Some out → before ≡ lanes_lines schema 0 lanes (take k outs) →
    lines ≡ lane_lines schema k one.commands out.replies → after ≡ before ++ lines → after ≡ lanes_lines schema 0 lanes (take (k + 1) outs)
lanes_grow schema lanes outs k one out before after lines at here so_far said grown =
    let number : k ≡ 0 + k = omega arith in
    grown ∙ ap (λ (t : List ℕ). t ++ lines) so_far
    ∙ ap (λ (t : List ℕ). lanes_lines schema 0 lanes (take k outs) ++ t) (said ∙ ap (λ (n : ℕ). lane_lines schema n one.commands out.replies) number)
    ∙ sym (lanes_more schema 0 lanes outs k one out at here)

pub lines_all : (f : List LaneReply → List ℕ) (replies : List LaneReply) (k : ℕ) (text : List ℕ) → length replies ≤ k → text ≡ f (take k replies) → text ≡ f replies
lines_all f replies k text past is = is ∙ ap f (take_past replies k past)

pub outs_all : (f : List LaneOut → List ℕ) (outs : List LaneOut) (k : ℕ) (text : List ℕ) → length outs ≤ k → text ≡ f (take k outs) → text ≡ f outs
outs_all f outs k text past is = is ∙ ap f (take_past outs k past)

-- the calls of some kind among so many replies

filter_one : {A : Type 0} (x : A) (b : Bool) → length (cond b (x ∷ []) []) ≡ cond b 1 0
filter_one x true = refl
filter_one x false = refl

pub filter_more : {A : Type 0} (p : A → Bool) (xs : List A) (i before : ℕ) (x : A) (n m : ℕ) → i < length xs → x ≡ get_or xs i x →
    n ≡ before + length (filter p (take i xs)) → m ≡ n + cond (p x) 1 0 → m ≡ before + length (filter p (take (i + 1) xs))
filter_more p xs i before x n m below is so_far more =
    let grown : length (filter p (take (i + 1) xs)) ≡ length (filter p (take i xs)) + cond (p x) 1 0 =
    ap (λ (l : List _). length (filter p l)) (take_more xs i x below ∙ ap (λ (y : _). take i xs ++ y ∷ []) (sym is))
    ∙ ap length (filter-append p (take i xs) (x ∷ []))
    ∙ length-append (filter p (take i xs)) (cond (p x) (x ∷ []) [])
    ∙ ap (λ (k : ℕ). length (filter p (take i xs)) + k) (filter_one x (p x)) in
    omega (arith, so_far, more, grown)

pub lists_more : {A B : Type 0} (p : B → Bool) (f : A → List B) (xs : List A) (i : ℕ) (x : A) (n m : ℕ) → i < length xs → x ≡ get_or xs i x →
    n ≡ length (filter p (flat_map f (take i xs))) → m ≡ n + length (filter p (f x)) → m ≡ length (filter p (flat_map f (take (i + 1) xs)))
lists_more p f xs i x n m below is so_far more =
    let seen : flat_map f (take i xs) ++ f x ≡ flat_map f (take (i + 1) xs) = lists_grow f xs i x [] (flat_map f (take i xs)) (flat_map f (take i xs) ++ f x) below is refl refl in
    let grown : length (filter p (flat_map f (take (i + 1) xs))) ≡ length (filter p (flat_map f (take i xs))) + length (filter p (f x)) =
    ap (λ (l : List _). length (filter p l)) (sym seen)
    ∙ ap length (filter-append p (flat_map f (take i xs)) (f x)) ∙ length-append (filter p (flat_map f (take i xs))) (filter p (f x)) in
    omega (arith, so_far, more, grown)

-- a fact of each element, for one more
pub each_more : {A : Type 0} (P : A → Type 0) (xs : List A) (i : ℕ) (x : A) → i < length xs → x ≡ get_or xs i x →
    ((k : ℕ) (y : A) → slice_get (take i xs) k ≡ Some y → P y) → P x → (k : ℕ) (y : A) → slice_get (take (i + 1) xs) k ≡ Some y → P y
each_more P xs i x below is so_far one = λ k y at.
    let grown : take (i + 1) xs ≡ take i xs ++ x ∷ [] = take_more xs i x below ∙ ap (λ (z : _). take i xs ++ z ∷ []) (sym is) in
    ⊎_elim (λ t. so_far k y t.1) (λ t. subst P t.1 one)
    (push_cases (take i xs) x y k (ap (λ (l : List _). slice_get l k) (sym grown) ∙ at))

pub each_all : {A : Type 0} (P : A → Type 0) (xs : List A) (i : ℕ) → length xs ≤ i → ((k : ℕ) (y : A) → slice_get (take i xs) k ≡ Some y → P y) →
    (k : ℕ) (y : A) → slice_get xs k ≡ Some y → P y
each_all P xs i past all = λ k y at. all k y (ap (λ (l : List _). slice_get l k) (take_past xs i past) ∙ at)
