-- The groups below one number more, and the type numbers of the script that is made to a size.
use Rattle.std.proofs.Common.{◌≡◌, ℕ, zero, suc, ◌+◌, ◌%◌, ◌==◌, Bool, true, false, cond, List, [], ◌∷◌, ◌++◌, map, refl, sym, ap, subst, ◌∙◌, arith, lit<, append_assoc, append-nil}
use Rattle.std.specs.List.{All, filter, flat_map, range_with_len}
use Rattle.std.proofs.lemmas.List.Elements.{All-nil, All-cons, All-append, All-map, All-push, All-same, All-from_recursion, filter-append}
use Rattle.std.proofs.lemmas.Grind.{flat_map-append}
use Rattle.std.proofs.lemmas.List.{map-append}
use Rattle.std.proofs.lemmas.List.FromFn.{map-range_with_len_more}
use Rattle.delf_model.specs.declared.call.Call.TheVariants.{Delete}
use Rattle.delf_model.specs.declared.script.Command.{Command}
use Rattle.delf_model.specs.declared.script.Command.TheVariants.{Work, Par}
use Rattle.delf_model.specs.declared.script.Lane.{Lane}
use Rattle.delf_model.specs.declared.script.LaneCommand.{LaneCommand}
use Rattle.delf_model.specs.declared.script.LaneCommand.TheVariants as lane
use Rattle.delf_model.specs.declared.schema.Schema.{Schema}
use Rattle.script_lang.specs.TypeNumbers.{LaneCommandNames, LaneNames, CommandNames}
use Rattle.script_lang.specs.Generated.{generated_schema, objects_of, links_of, ring_of, deletion_of, all_links_of, user_of, job_of, group_of, is_in_lane, lane_of, restored, restores_of, script_of_groups}

range_more : (a n : ℕ) → range_with_len a (n + 1) ≡ range_with_len a n ++ (a + n) ∷ []
range_more a zero = let e : a ≡ a + 0 = omega arith in ap (λ k. k ∷ []) e
range_more a (suc n) =
    let longer : suc n + 1 ≡ suc (n + 1) = omega arith in
    let last : (a + 1) + n ≡ a + suc n = omega arith in
    ap (range_with_len a) longer ∙ ap (λ l. a ∷ l) (range_more (a + 1) n ∙ ap (λ k. range_with_len (a + 1) n ++ k ∷ []) last)

-- the numbers below n at which a test holds
abbrev kept : (ℕ → Bool) → ℕ → List ℕ
kept p n = filter p (range_with_len 0 n)

kept_more : (p : ℕ → Bool) (n : ℕ) → kept p (n + 1) ≡ kept p n ++ cond (p n) (n ∷ []) []
kept_more p n =
    let last : 0 + n ≡ n = omega arith in
    ap (filter p) (range_more 0 n ∙ ap (λ k. range_with_len 0 n ++ k ∷ []) last) ∙ filter-append p (range_with_len 0 n) (n ∷ [])

flat_map_one : {A : Type 0} (f : ℕ → List A) (n : ℕ) (b : Bool) → flat_map f (cond b (n ∷ []) []) ≡ cond b (f n) []
flat_map_one f n true = append-nil (f n)
flat_map_one f n false = refl

map_one : {A : Type 0} (f : ℕ → A) (n : ℕ) (b : Bool) → map f (cond b (n ∷ []) []) ≡ cond b (f n ∷ []) []
map_one f n true = refl
map_one f n false = refl

pub flat_map_kept : {A : Type 0} (f : ℕ → List A) (p : ℕ → Bool) (n : ℕ) (before after : List A) →
    before ≡ flat_map f (filter p (range_with_len 0 n)) → after ≡ before ++ cond (p n) (f n) [] →
    after ≡ flat_map f (filter p (range_with_len 0 (n + 1)))
flat_map_kept f p n before after so_far more =
    more ∙ ap (λ l. l ++ cond (p n) (f n) []) so_far
    ∙ sym (ap (flat_map f) (kept_more p n) ∙ flat_map-append f (kept p n) (cond (p n) (n ∷ []) [])
    ∙ ap (λ l. flat_map f (kept p n) ++ l) (flat_map_one f n (p n)))

pub map_kept : {A : Type 0} (f : ℕ → A) (p : ℕ → Bool) (n : ℕ) (start before after : List A) →
    before ≡ start ++ map f (filter p (range_with_len 0 n)) → after ≡ before ++ cond (p n) (f n ∷ []) [] →
    after ≡ start ++ map f (filter p (range_with_len 0 (n + 1)))
map_kept f p n start before after so_far more =
    more ∙ ap (λ l. l ++ cond (p n) (f n ∷ []) []) so_far ∙ append_assoc start (map f (kept p n)) (cond (p n) (f n ∷ []) [])
    ∙ ap (λ l. start ++ l) (sym (ap (map f) (kept_more p n) ∙ map-append f (kept p n) (cond (p n) (n ∷ []) [])
    ∙ ap (λ l. map f (kept p n) ++ l) (map_one f n (p n))))

pub lanes_more : (groups n : ℕ) (before after : List Lane) (made : Lane) → before ≡ map (lane_of groups) (range_with_len 0 n) →
    made ≡ lane_of groups n → after ≡ before ++ made ∷ [] → after ≡ map (lane_of groups) (range_with_len 0 (n + 1))
lanes_more groups n before after made so_far is more =
    more ∙ ap (λ (l : List Lane). l ++ made ∷ []) so_far ∙ ap (λ (x : Lane). map (lane_of groups) (range_with_len 0 n) ++ x ∷ []) is
    ∙ sym (map-range_with_len_more (lane_of groups) 0 n n (omega arith))

-- each number in the script is that of a declared type

All-flat_map : {X A : Type 0} (P : A → Type 0) (f : X → List A) → ((x : X) → All P (f x)) → (xs : List X) → All P (flat_map f xs)
All-flat_map P f each [] = All-nil P
All-flat_map P f each (x ∷ xs) = All-append P (f x) (flat_map f xs) (each x) (All-flat_map P f each xs)

All-each : {X : Type 0} (P : X → Type 0) → ((x : X) → P x) → (xs : List X) → All P xs
All-each P each [] = All-nil P
All-each P each (x ∷ xs) = All-cons P x xs (each x) (All-each P each xs)

abbrev Named : LaneCommand → Type 0
Named = LaneCommandNames generated_schema

objects_named : (user : ℕ) → All Named (objects_of user)
objects_named user = All-from_recursion Named (objects_of user) (lit< tt, (lit< tt, (lit< tt, (lit< tt, tt))))

links_named : (user photo : ℕ) → All Named (links_of user photo)
links_named user photo = All-from_recursion Named (links_of user photo) (lit< tt, (lit< tt, (lit< tt, tt)))

ring_named : (user : ℕ) → All Named (ring_of user)
ring_named user = All-from_recursion Named (ring_of user) (lit< tt, (lit< tt, (lit< tt, tt)))

named_if : (b : Bool) (command : LaneCommand) → Named command → All Named (cond b (command ∷ []) [])
named_if true command is = All-cons Named command [] is (All-nil Named)
named_if false command is = All-nil Named

all_links_named : (user : ℕ) → All Named (all_links_of user)
all_links_named user =
    All-append Named (links_of user (user + 1) ++ links_of user (user + 2) ++ links_of user (user + 3)) (ring_of user)
    (All-append Named (links_of user (user + 1) ++ links_of user (user + 2)) (links_of user (user + 3))
    (All-append Named (links_of user (user + 1)) (links_of user (user + 2)) (links_named user (user + 1)) (links_named user (user + 2)))
    (links_named user (user + 3)))
    (ring_named user)

group_named : (group : ℕ) → All Named (group_of group)
group_named group =
    All-append Named (objects_of (user_of group) ++ all_links_of (user_of group)) (deletion_of group)
    (All-append Named (objects_of (user_of group)) (all_links_of (user_of group)) (objects_named (user_of group)) (all_links_named (user_of group)))
    (named_if (group % 2 == 0) (lane.Submit (Delete (user_of group) (job_of group))) tt)

lane_named : (groups lane : ℕ) → LaneNames generated_schema (lane_of groups lane)
lane_named groups lane = record { commands = All-flat_map Named group_of group_named (filter (is_in_lane lane) (range_with_len 0 groups)) }

restores_named : (groups : ℕ) → All (CommandNames generated_schema) (restores_of groups)
restores_named groups =
    All-map (CommandNames generated_schema) restored (kept (is_in_lane 0) groups) (All-each (λ (g : ℕ). CommandNames generated_schema (restored g)) (λ g. tt) (kept (is_in_lane 0) groups))

pub generated_named : (groups : ℕ) → All (CommandNames generated_schema) (script_of_groups groups)
generated_named groups =
    All-cons (CommandNames generated_schema) (Par true 8 1000000 (map (lane_of groups) (range_with_len 0 8))) (restores_of groups ++ Work 1000000 ∷ [])
    (All-map (LaneNames generated_schema) (lane_of groups) (range_with_len 0 8)
    (All-each (λ (lane : ℕ). LaneNames generated_schema (lane_of groups lane)) (lane_named groups) (range_with_len 0 8)))
    (All-push (CommandNames generated_schema) (restores_of groups) (Work 1000000) (restores_named groups) tt)

pub generated_named_as : (schema : Schema) (script : List Command) (groups : ℕ) → schema ≡ generated_schema → script ≡ script_of_groups groups →
    All (CommandNames schema) script
generated_named_as schema script groups is made =
    subst (λ (s : Schema). All (CommandNames s) script) (sym is)
    (All-same (CommandNames generated_schema) script (script_of_groups groups) made (generated_named groups))
