-- Entries by rising key: what is found in them, and that what is found makes them.
use Rattle.std.proofs.Common.{Less, Equal, Greater, ◌≡◌, Bool, true, false, cond, ◌+◌, Option, Some, None, List, [], ◌∷◌, refl, sym, ap, subst, ◌∙◌, arith}
use Rattle.std.proofs.lemmas.Bool.Decides.{nat_tests}
use Rattle.std.proofs.lemmas.Grind.{common_steps}
use Rattle.std.proofs.lemmas.Map.{keys-set_value}
use Rattle.std.proofs.lemmas.Map.Keys.{sorted_head, sorted_tail, sorted_from_all_adjacent, apart_from_distinct}
use Rattle.std.specs.Prelude.{is_some, slice_index_or}
use Rattle.std.specs.Cmp.{IsTotalOrder, IsEquivalence}
use Rattle.std.specs.List.{AllByRecursion, IsDistinct}
use Rattle.std.specs.List.Sorted.{IsStrictlySortedBy, IsSorted}
use Rattle.std.specs.Map.{keys_of, set_value, remove_entry}
use Rattle.std.specs.BTreeMap.{is_at, insert_entry}
use Rattle.std.specs.declared.cmp.Ordering.{Ordering}
use Rattle.std.specs.Ordering.{is_eq, is_lt, match_ordering, ordering_reverse}
use Rattle.delf_model.specs.declared.rows.EdgeKey.{EdgeKey}
use Rattle.delf_model.specs.Graph.{same_key, key_before}
use Rattle.delf_model.proofs.Graphs.{same_key_is, same_key_refl, same_key_sym}
use Rattle.edge_index.specs.declared.links.Link.{Link}
use Rattle.edge_index.specs.Keys.{edge_cmp, edge_eq}
use Rattle.edge_index.specs.Links.{Entry, by_key, found, link_at, link_home, has_room}
use Rattle.edge_index.proofs.Keys.{edge_equal, edge_same, edge_less, before_less, before_along, before_or_after}
use Rattle.edge_index.proofs.Rows.{Sorted}

abbrev Above : EdgeKey → List Entry → Type 0
Above low es = AllByRecursion (λ key. edge_cmp low key ≡ Less) (keys_of es)

along : (a b c : EdgeKey) → edge_cmp a b ≡ Less → edge_cmp b c ≡ Less → edge_cmp a c ≡ Less
along a b c h k = before_less a c (before_along a b c (edge_less a b h) (edge_less b c k))

back : (a b : EdgeKey) → edge_cmp a b ≡ Greater → edge_cmp b a ≡ Less
back a b h = grind (arith, nat_tests, common_steps)

one : (a b : EdgeKey) → is_eq (edge_cmp a b) ≡ true → a ≡ b
one a b h = same_key_is a b (sym (edge_equal a b) ∙ h)

turned : (a b : EdgeKey) → is_eq (edge_cmp a b) ≡ is_eq (edge_cmp b a)
turned a b = edge_equal a b ∙ (same_key_sym a b ∙ sym (edge_equal b a))

self : (key : EdgeKey) → is_eq (edge_cmp key key) ≡ true
self key = edge_equal key key ∙ same_key_refl key

settle : {X : Type 0} (a b : Bool) (x y z : X) → a ≡ b → cond a x z ≡ cond b x (cond a y z)
settle true true x y z is = refl
settle false false x y z is = refl
settle true false x y z is = absurd (cc)
settle false true x y z is = absurd (cc)

crossed : {X : Type 0} (a b : Bool) (x y z : X) → (a ≡ true → b ≡ false) → cond a x (cond b y z) ≡ cond b y (cond a x z)
crossed false b x y z apart = refl
crossed true false x y z apart = refl
crossed true true x y z apart = let no = apart refl in absurd (cc)

below_all : (low key : EdgeKey) (es : List Entry) → edge_cmp low key ≡ Less → Above key es → Above low es
below_all low key [] less all = tt
below_all low key (e ∷ es) less all = (along low key e.0 less all.0, below_all low key es less all.1)

cons_rise : (e : Entry) (es : List Entry) → Above e.0 es → Sorted es → Sorted (e ∷ es)
unfolding IsStrictlySortedBy
cons_rise e es above sorted = (above, sorted)

none_above : (low : EdgeKey) (es : List Entry) → Above low es → link_at es low ≡ None
none_above low [] all = refl
none_above low (e ∷ es) all = ap (λ (o : Ordering). cond (is_eq o) (Some e.1) (link_at es low)) all.0 ∙ none_above low es all.1

-- one entry more

above_insert : (low key : EdgeKey) (link : Option Link) (es : List Entry) → edge_cmp low key ≡ Less → Above low es → Above low (insert_entry edge_cmp es key link)
above_insert low key link [] less all = (less, tt)
above_insert low key link (e ∷ es) less all = go (edge_cmp key e.0) (above_insert low key link es less all.1)
  where
    go : (o : Ordering) → Above low (insert_entry edge_cmp es key link) →
        Above low (match_ordering o ((key, link) ∷ e ∷ es) ((e.0, link) ∷ es) (e ∷ insert_entry edge_cmp es key link))
    go Less more = (less, all)
    go Equal more = all
    go Greater more = (all.0, more)

pub insert_rise : (key : EdgeKey) (link : Option Link) (es : List Entry) → Sorted es → Sorted (insert_entry edge_cmp es key link)
insert_rise key link [] sorted = cons_rise (key, link) [] tt sorted
insert_rise key link (e ∷ es) sorted =
    go (edge_cmp key e.0) refl (sorted_head edge_cmp e.0 (keys_of es) sorted) (sorted_tail edge_cmp e.0 (keys_of es) sorted)
    (insert_rise key link es (sorted_tail edge_cmp e.0 (keys_of es) sorted))
  where
    go : (o : Ordering) → edge_cmp key e.0 ≡ o → Above e.0 es → Sorted es → Sorted (insert_entry edge_cmp es key link) →
        Sorted (match_ordering o ((key, link) ∷ e ∷ es) ((e.0, link) ∷ es) (e ∷ insert_entry edge_cmp es key link))
    go Less is above rest more = cons_rise (key, link) (e ∷ es) (is, below_all key e.0 es is above) (cons_rise e es above rest)
    go Equal is above rest more = cons_rise (e.0, link) es above rest
    go Greater is above rest more = cons_rise e (insert_entry edge_cmp es key link) (above_insert e.0 key link es (back key e.0 is) above) more

pub link_insert : (key : EdgeKey) (link : Option Link) (es : List Entry) (q : EdgeKey) →
    link_at (insert_entry edge_cmp es key link) q ≡ cond (is_eq (edge_cmp key q)) (Some link) (link_at es q)
link_insert key link [] q = ap (λ (b : Bool). cond b (Some link) None) (turned q key)
link_insert key link (e ∷ es) q = go (edge_cmp key e.0) refl (link_insert key link es q)
  where
    go : (o : Ordering) → edge_cmp key e.0 ≡ o → link_at (insert_entry edge_cmp es key link) q ≡ cond (is_eq (edge_cmp key q)) (Some link) (link_at es q) →
        link_at (match_ordering o ((key, link) ∷ e ∷ es) ((e.0, link) ∷ es) (e ∷ insert_entry edge_cmp es key link)) q ≡
        cond (is_eq (edge_cmp key q)) (Some link) (cond (is_eq (edge_cmp q e.0)) (Some e.1) (link_at es q))
    go Less is more = ap (λ (b : Bool). cond b (Some link) (cond (is_eq (edge_cmp q e.0)) (Some e.1) (link_at es q))) (turned q key)
    go Equal is more =
        settle (is_eq (edge_cmp q e.0)) (is_eq (edge_cmp key q)) (Some link) (Some e.1) (link_at es q)
        (ap (λ (k : EdgeKey). is_eq (edge_cmp q k)) (sym (one key e.0 (ap is_eq is))) ∙ turned q key)
    go Greater is more =
        ap (cond (is_eq (edge_cmp q e.0)) (Some e.1)) more
        ∙ crossed (is_eq (edge_cmp q e.0)) (is_eq (edge_cmp key q)) (Some e.1) (Some link) (link_at es q)
        (λ at. ap (λ (k : EdgeKey). is_eq (edge_cmp key k)) (one q e.0 at) ∙ ap is_eq is)

-- one entry written

set_rise : (key : EdgeKey) (link : Option Link) (es : List Entry) → Sorted es → Sorted (set_value (is_at (edge_cmp key)) es link)
set_rise key link es sorted = subst (λ (keys : List EdgeKey). IsStrictlySortedBy edge_cmp keys) (sym (keys-set_value (is_at (edge_cmp key)) es link)) sorted

link_set : (key : EdgeKey) (link : Option Link) (es : List Entry) (q : EdgeKey) → has_room es key ≡ true →
    link_at (set_value (is_at (edge_cmp key)) es link) q ≡ cond (is_eq (edge_cmp key q)) (Some link) (link_at es q)
link_set key link [] q room = absurd (cc)
link_set key link (e ∷ es) q room = go (is_eq (edge_cmp key e.0)) refl (λ more. link_set key link es q more) room
  where
    go : (b : Bool) → is_eq (edge_cmp key e.0) ≡ b →
        (has_room es key ≡ true → link_at (set_value (is_at (edge_cmp key)) es link) q ≡ cond (is_eq (edge_cmp key q)) (Some link) (link_at es q)) →
        is_some (cond b (Some e.1) (link_at es key)) ≡ true →
        link_at (cond b ((e.0, link) ∷ es) (e ∷ set_value (is_at (edge_cmp key)) es link)) q ≡
        cond (is_eq (edge_cmp key q)) (Some link) (cond (is_eq (edge_cmp q e.0)) (Some e.1) (link_at es q))
    go true is more room =
        settle (is_eq (edge_cmp q e.0)) (is_eq (edge_cmp key q)) (Some link) (Some e.1) (link_at es q)
        (ap (λ (k : EdgeKey). is_eq (edge_cmp q k)) (sym (one key e.0 is)) ∙ turned q key)
    go false is more room =
        ap (cond (is_eq (edge_cmp q e.0)) (Some e.1)) (more room)
        ∙ crossed (is_eq (edge_cmp q e.0)) (is_eq (edge_cmp key q)) (Some e.1) (Some link) (link_at es q)
        (λ at. ap (λ (k : EdgeKey). is_eq (edge_cmp key k)) (one q e.0 at) ∙ is)

-- one entry less

above_remove : (low key : EdgeKey) (es : List Entry) → Above low es → Above low (remove_entry (is_at (edge_cmp key)) es)
above_remove low key [] all = tt
above_remove low key (e ∷ es) all = go (is_eq (edge_cmp key e.0)) (above_remove low key es all.1)
  where
    go : (b : Bool) → Above low (remove_entry (is_at (edge_cmp key)) es) → Above low (cond b es (e ∷ remove_entry (is_at (edge_cmp key)) es))
    go true more = all.1
    go false more = (all.0, more)

remove_rise : (key : EdgeKey) (es : List Entry) → Sorted es → Sorted (remove_entry (is_at (edge_cmp key)) es)
remove_rise key [] sorted = sorted
remove_rise key (e ∷ es) sorted =
    go (is_eq (edge_cmp key e.0)) (sorted_head edge_cmp e.0 (keys_of es) sorted) (sorted_tail edge_cmp e.0 (keys_of es) sorted)
    (remove_rise key es (sorted_tail edge_cmp e.0 (keys_of es) sorted))
  where
    go : (b : Bool) → Above e.0 es → Sorted es → Sorted (remove_entry (is_at (edge_cmp key)) es) → Sorted (cond b es (e ∷ remove_entry (is_at (edge_cmp key)) es))
    go true above rest more = rest
    go false above rest more = cons_rise e (remove_entry (is_at (edge_cmp key)) es) (above_remove e.0 key es above) more

link_remove : (key : EdgeKey) (es : List Entry) (q : EdgeKey) → Sorted es →
    link_at (remove_entry (is_at (edge_cmp key)) es) q ≡ cond (is_eq (edge_cmp key q)) None (link_at es q)
link_remove key [] q sorted = same_both (is_eq (edge_cmp key q)) None
  where
    same_both : {X : Type 0} (b : Bool) (x : X) → x ≡ cond b x x
    same_both true x = refl
    same_both false x = refl
link_remove key (e ∷ es) q sorted =
    go (is_eq (edge_cmp key e.0)) refl (sorted_head edge_cmp e.0 (keys_of es) sorted) (link_remove key es q (sorted_tail edge_cmp e.0 (keys_of es) sorted))
  where
    here : (b : Bool) → is_eq (edge_cmp key q) ≡ b → is_eq (edge_cmp key e.0) ≡ true → Above e.0 es → (a : Bool) → a ≡ b →
        link_at es q ≡ cond b None (cond a (Some e.1) (link_at es q))
    here true own is above true same = subst (λ (k : EdgeKey). link_at es k ≡ None) (sym (one key e.0 is) ∙ one key q own) (none_above e.0 es above)
    here false own is above false same = refl
    here true own is above false same = absurd (cc)
    here false own is above true same = absurd (cc)

    go : (b : Bool) → is_eq (edge_cmp key e.0) ≡ b → Above e.0 es →
        link_at (remove_entry (is_at (edge_cmp key)) es) q ≡ cond (is_eq (edge_cmp key q)) None (link_at es q) →
        link_at (cond b es (e ∷ remove_entry (is_at (edge_cmp key)) es)) q ≡
        cond (is_eq (edge_cmp key q)) None (cond (is_eq (edge_cmp q e.0)) (Some e.1) (link_at es q))
    go true is above more =
        here (is_eq (edge_cmp key q)) refl is above (is_eq (edge_cmp q e.0)) (ap (λ (k : EdgeKey). is_eq (edge_cmp q k)) (sym (one key e.0 is)) ∙ turned q key)
    go false is above more =
        ap (cond (is_eq (edge_cmp q e.0)) (Some e.1)) more
        ∙ crossed (is_eq (edge_cmp q e.0)) (is_eq (edge_cmp key q)) (Some e.1) None (link_at es q)
        (λ at. ap (λ (k : EdgeKey). is_eq (edge_cmp key k)) (one q e.0 at) ∙ is)

-- entries by rising key are made by what is found in them

first_found : (e : Entry) (es : List Entry) → link_at (e ∷ es) e.0 ≡ Some e.1
first_found e es = ap (λ (b : Bool). cond b (Some e.1) (link_at es e.0)) (self e.0)

not_found : (e : Entry) (es fs : List Entry) → Above e.0 fs → link_at (e ∷ es) e.0 ≡ link_at fs e.0 → ⊥
not_found e es fs above same = let no : Some e.1 ≡ None = sym (first_found e es) ∙ (same ∙ none_above e.0 fs above) in absurd (cc)

rest_found : (e f : Entry) (es fs : List Entry) → e.0 ≡ f.0 → Above e.0 es → Above f.0 fs → ((q : EdgeKey) → link_at (e ∷ es) q ≡ link_at (f ∷ fs) q) →
    (q : EdgeKey) → link_at es q ≡ link_at fs q
rest_found e f es fs at above beyond same q = go (is_eq (edge_cmp q e.0)) (is_eq (edge_cmp q f.0)) refl refl (same q)
  where
    go : (a b : Bool) → is_eq (edge_cmp q e.0) ≡ a → is_eq (edge_cmp q f.0) ≡ b → cond a (Some e.1) (link_at es q) ≡ cond b (Some f.1) (link_at fs q) → link_at es q ≡ link_at fs q
    go false false is has equal = equal
    go true b is has equal =
        subst (λ (k : EdgeKey). link_at es k ≡ None) (sym (one q e.0 is)) (none_above e.0 es above)
        ∙ sym (subst (λ (k : EdgeKey). link_at fs k ≡ None) (sym (one q e.0 is ∙ at)) (none_above f.0 fs beyond))
    go false true is has equal = let no : is_eq (edge_cmp q e.0) ≡ true = ap (λ (k : EdgeKey). is_eq (edge_cmp q k)) at ∙ has in absurd (cc)

pub same_entries : (es fs : List Entry) → Sorted es → Sorted fs → ((q : EdgeKey) → link_at es q ≡ link_at fs q) → es ≡ fs
same_entries [] [] rise climb same = refl
same_entries [] (f ∷ fs) rise climb same = absurd (not_found f fs [] tt (sym (same f.0)))
same_entries (e ∷ es) [] rise climb same = absurd (not_found e es [] tt (same e.0))
same_entries (e ∷ es) (f ∷ fs) rise climb same =
    go (edge_cmp e.0 f.0) refl (sorted_head edge_cmp e.0 (keys_of es) rise) (sorted_head edge_cmp f.0 (keys_of fs) climb)
    (λ rest. same_entries es fs (sorted_tail edge_cmp e.0 (keys_of es) rise) (sorted_tail edge_cmp f.0 (keys_of fs) climb) rest)
  where
    both : (x y : Entry) → x.0 ≡ y.0 → x.1 ≡ y.1 → x ≡ y
    both x y keys links = λ i. (keys i, links i)

    go : (o : Ordering) → edge_cmp e.0 f.0 ≡ o → Above e.0 es → Above f.0 fs → (((q : EdgeKey) → link_at es q ≡ link_at fs q) → es ≡ fs) → (e ∷ es) ≡ (f ∷ fs)
    go Less is above beyond more = absurd (not_found e es (f ∷ fs) (is, below_all e.0 f.0 fs is beyond) (same e.0))
    go Greater is above beyond more =
        absurd (not_found f fs (e ∷ es) (back e.0 f.0 is, below_all f.0 e.0 es (back e.0 f.0 is) above) (sym (same f.0)))
    go Equal is above beyond more =
        let at : e.0 ≡ f.0 = one e.0 f.0 (ap is_eq is) in
        let got : Some e.1 ≡ Some f.1 = sym (first_found e es) ∙ (same e.0 ∙ (ap (link_at (f ∷ fs)) at ∙ first_found f fs)) in
        let link : e.1 ≡ f.1 = cc in
        ap (λ (x : Entry). x ∷ es) (both e f at link) ∙ ap (λ (rest : List Entry). f ∷ rest) (more (rest_found e f es fs at above beyond same))

-- entries in no order, seen by rising key

pub by_key_rise : (table : List Entry) → Sorted (by_key table)
unfolding IsStrictlySortedBy
by_key_rise [] = tt
by_key_rise (e ∷ es) = insert_rise e.0 e.1 (by_key es) (by_key_rise es)

pub by_key_found : (table : List Entry) (q : EdgeKey) → link_at (by_key table) q ≡ found table q
by_key_found [] q = refl
by_key_found (e ∷ es) q =
    link_insert e.0 e.1 (by_key es) q
    ∙ (ap (λ (b : Bool). cond b (Some e.1) (link_at (by_key es) q)) (turned e.0 q ∙ edge_same q e.0)
    ∙ ap (cond (edge_eq q e.0) (Some e.1)) (by_key_found es q))

pub by_key_is : (table es : List Entry) → Sorted es → ((q : EdgeKey) → found table q ≡ link_at es q) → by_key table ≡ es
by_key_is table es rise same = same_entries (by_key table) es (by_key_rise table) rise (λ q. by_key_found table q ∙ same q)

pub edge_laws : IsEquivalence edge_eq
edge_laws = record {
  refl = λ k. sym (edge_same k k) ∙ self k;
  symm = λ a b. sym (edge_same a b) ∙ (turned a b ∙ edge_same b a);
  congr = λ a b c same. ap (λ (k : EdgeKey). edge_eq k c) (one a b (edge_same a b ∙ same));
}

-- equal keys have one shard
pub homes : (a b : EdgeKey) → edge_eq a b ≡ true → link_home a ≡ link_home b
homes a b same = ap link_home (one a b (edge_same a b ∙ same))

-- what a table has after one key is written or taken out
abbrev pub Changed : List Entry → List Entry → EdgeKey → Option (Option Link) → Type 0
Changed old new key link = (q : EdgeKey) → found new q ≡ cond (edge_eq key q) link (found old q)

pub by_key_linked : (old new : List Entry) (key : EdgeKey) (link : Option (Option Link)) → Changed old new key link →
    (q : EdgeKey) → link_at (by_key new) q ≡ cond (is_eq (edge_cmp key q)) link (link_at (by_key old) q)
by_key_linked old new key link changed q =
    by_key_found new q ∙ (changed q ∙ (ap (λ (b : Bool). cond b link (found old q)) (sym (edge_same key q))
    ∙ ap (cond (is_eq (edge_cmp key q)) link) (sym (by_key_found old q))))

pub by_key_inserted : (old new : List Entry) (key : EdgeKey) (link : Option Link) → Changed old new key (Some link) → by_key new ≡ insert_entry edge_cmp (by_key old) key link
by_key_inserted old new key link changed =
    same_entries (by_key new) (insert_entry edge_cmp (by_key old) key link) (by_key_rise new) (insert_rise key link (by_key old) (by_key_rise old))
    (λ q. by_key_linked old new key (Some link) changed q ∙ sym (link_insert key link (by_key old) q))

pub by_key_set : (old new : List Entry) (key : EdgeKey) (link : Option Link) → has_room (by_key old) key ≡ true → Changed old new key (Some link) →
    by_key new ≡ set_value (is_at (edge_cmp key)) (by_key old) link
by_key_set old new key link room changed =
    same_entries (by_key new) (set_value (is_at (edge_cmp key)) (by_key old) link) (by_key_rise new) (set_rise key link (by_key old) (by_key_rise old))
    (λ q. by_key_linked old new key (Some link) changed q ∙ sym (link_set key link (by_key old) q room))

pub by_key_removed : (old new : List Entry) (key : EdgeKey) → Changed old new key None → by_key new ≡ remove_entry (is_at (edge_cmp key)) (by_key old)
by_key_removed old new key changed =
    same_entries (by_key new) (remove_entry (is_at (edge_cmp key)) (by_key old)) (by_key_rise new) (remove_rise key (by_key old) (by_key_rise old))
    (λ q. by_key_linked old new key None changed q ∙ sym (link_remove key (by_key old) q (by_key_rise old)))

pub found_room : (table : List Entry) (key : EdgeKey) → has_room (by_key table) key ≡ is_some (found table key)
found_room table key = ap is_some (by_key_found table key)

-- a table whose keys are sorted is seen as it is

forth : (a b : EdgeKey) → edge_cmp b a ≡ Less → edge_cmp a b ≡ Greater
forth a b h = grind (arith, nat_tests, common_steps)

level : (a b : EdgeKey) → edge_cmp b a ≡ Equal → edge_cmp a b ≡ Equal
level a b h = grind (arith, nat_tests, common_steps)

turned_over : (a b : EdgeKey) → edge_cmp a b ≡ ordering_reverse (edge_cmp b a)
turned_over a b = go (edge_cmp b a) refl
  where
    go : (o : Ordering) → edge_cmp b a ≡ o → edge_cmp a b ≡ ordering_reverse o
    go Less is = forth a b is
    go Equal is = level a b is
    go Greater is = back b a is

edge_order : IsTotalOrder edge_cmp
edge_order = record { antisymm = turned_over; trans = along; congr = λ x y z h. ap (λ (k : EdgeKey). edge_cmp k z) (one x y (ap is_eq h)) }

strictly : (a b : EdgeKey) → is_lt (edge_cmp b a) ≡ false → same_key a b ≡ false → edge_cmp a b ≡ Less
strictly a b least apart = go (key_before b a) refl
  where
    go : (before : Bool) → key_before b a ≡ before → edge_cmp a b ≡ Less
    go true is = let no : is_lt (edge_cmp b a) ≡ true = ap is_lt (before_less b a is) in absurd (cc)
    go false is = before_less a b (before_or_after b a is (same_key_sym b a ∙ apart))

pub sorted_rise : (es : List Entry) → IsSorted edge_cmp (keys_of es) → IsDistinct edge_eq (keys_of es) → Sorted es
sorted_rise es sorted distinct =
    let low : EdgeKey = record { edge = 0; from = 0; to = 0 } in
    sorted_from_all_adjacent edge_order (keys_of es) low
    (λ k within. strictly (slice_index_or (keys_of es) k low) (slice_index_or (keys_of es) (k + 1) low) (sorted k low (omega arith) within)
    (sym (edge_equal (slice_index_or (keys_of es) k low) (slice_index_or (keys_of es) (k + 1) low))
    ∙ (edge_same (slice_index_or (keys_of es) k low) (slice_index_or (keys_of es) (k + 1) low)
    ∙ apart_from_distinct edge_eq (keys_of es) k (k + 1) low distinct (omega arith) within)))

pub sorted_is : (table sorted : List Entry) → IsSorted edge_cmp (keys_of sorted) → IsDistinct edge_eq (keys_of sorted) →
    ((q : EdgeKey) → found sorted q ≡ found table q) → sorted ≡ by_key table
sorted_is table sorted order distinct same =
    sym (by_key_is table sorted (sorted_rise sorted order distinct) (λ q. sym (same q) ∙ here q))
  where
    here : (q : EdgeKey) → found sorted q ≡ link_at sorted q
    here q = seen sorted
      where
        seen : (es : List Entry) → found es q ≡ link_at es q
        seen [] = refl
        seen (e ∷ es) = ap (λ (b : Bool). cond b (Some e.1) (found es q)) (sym (edge_same q e.0)) ∙ ap (cond (is_eq (edge_cmp q e.0)) (Some e.1)) (seen es)
