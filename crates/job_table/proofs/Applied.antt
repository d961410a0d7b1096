-- A table that was noted for an entry is the table of the state after it.
use Rattle.std.proofs.Common.{◌≡◌, ℕ, ◌+◌, ◌-◌, ◌≤◌, Bool, true, false, cond, ◌&&◌, ◌∷◌, ◌++◌, [], Option, Some, None, is_some, sym, ◌∙◌, ap, subst, arith, refl}
use Rattle.std.specs.Prelude.{nat_eq, is_none, sum_by}
use Rattle.delf_model.specs.declared.rows.EdgeKey.{EdgeKey}
use Rattle.delf_model.specs.declared.entry.Entry.{Entry}
use Rattle.delf_model.specs.declared.entry.What.{What}
use Rattle.std.specs.Prelude.{option_map}
use Rattle.delf_model.specs.declared.rows.ObjectRow.{ObjectRow}
use Rattle.delf_model.specs.declared.rows.EdgeRow.{EdgeRow}
use Rattle.delf_model.specs.declared.rows.Item.{Item}
use Rattle.delf_model.specs.declared.rows.Item.TheVariants as item
use Rattle.delf_model.specs.declared.call.Cause.{Cause}
use Rattle.delf_model.specs.declared.entry.Tag.{Tag}
use Rattle.delf_model.specs.declared.entry.What.TheVariants.{Create, Update, Link, Unlink, Delete, Restore, Expire, Cut, Erase, Put, Purge}
use Rattle.delf_model.specs.declared.ids.JobName.TheVariants.{Named, Expiry}
use Rattle.delf_model.specs.RuleSet.{RuleSet}
use Rattle.delf_model.specs.Graph.{Graph, TakesEdge, changed, object_at, edge_at, edge_stands, objects_rise, edges_rise}
use Rattle.delf_model.specs.Store.{EndsStand}
use Rattle.delf_model.specs.State.{State, owner, is_job}
use Rattle.delf_model.specs.Step.{step, birth_of}
use Rattle.delf_model.specs.Puts.{judged}
use Rattle.delf_model.specs.Owners.{condemns}
use Rattle.delf_model.specs.Legal.{is_legal}
use Rattle.job_table.specs.Table.{Table, IsTableOf, IsGraphOf, owner_among, owned_among, item_at, item_of_logged}
use Rattle.job_table.specs.Notes.{noted, noted_start, noted_restore, noted_purge, weight_of, noted_item, noted_put, takes_last, condemns_before, item_weight, put_weight}
use Rattle.job_table.proofs.Steps.{Ordered, condemns_by_count, last_by_count}
use Rattle.job_table.proofs.Begins.{some_of, none_of, starts, unlink_facts, unlink_started_step, unlink_started_owed, unlink_plain_step, unlink_plain_owed, delete_step, delete_owed, delete_facts, expire_step, expire_owed, expire_facts, restore_step, purge_step, purge_owed}
use Rattle.job_table.proofs.Calls.{create_step, update_step, link_step}
use Rattle.job_table.proofs.Erasures.{CutFacts, cut_facts, cut_item, passes, cut_passing_step, cut_passing_owed, cut_plain_step, cut_plain_owed, EraseFacts, erase_facts, erase_step, erase_owed}
use Rattle.job_table.proofs.Lookups.{both}
use Rattle.job_table.proofs.Puts.{PutFacts, put_facts, put_step, item_within}
use Rattle.job_table.specs.Owning.{Gains}
use Rattle.job_table.proofs.Owning.{gained}

-- the state's graph is ordered, since the stored one is
pub ordered : (s : State) (stored : Graph) → stored ≡ s.graph → objects_rise stored.objects ≡ true → edges_rise stored.edges ≡ true → EndsStand stored →
    Ordered s.graph
ordered s stored e a b d = subst (λ (g : Graph). Ordered g) e (record { objects = a; edges = b; ends = d })

-- a table noted for one kind of entry is the table of the entry
pub applied : (s : State) (e : Entry) (w : What) (t new : Table) → e.what ≡ w →
    (is_legal s (record { moment = e.moment; what = w }) ≡ true → IsTableOf (step s (record { moment = e.moment; what = w })) t) →
    new ≡ t → is_legal s e ≡ true → IsTableOf (step s e) new
applied s e w t new p f q l =
    subst (λ (v : What). IsTableOf (step s (record { moment = e.moment; what = v })) new) (sym p)
    (subst (λ (u : Table). IsTableOf (step s (record { moment = e.moment; what = w })) u) (sym q)
    (f (subst (λ (v : What). is_legal s (record { moment = e.moment; what = v }) ≡ true) p l)))

pub legal_as : (s : State) (e : Entry) (w : What) → e.what ≡ w → is_legal s e ≡ true → is_legal s (record { moment = e.moment; what = w }) ≡ true
legal_as s e w p l = subst (λ (v : What). is_legal s (record { moment = e.moment; what = v }) ≡ true) p l

-- the room rule of a table
pub room_of : (s : State) (t : Table) → IsTableOf s t → t.len + t.owed ≤ 500000
room_of s t h = omega (arith, h.len, h.owed, h.keeps.within)

-- what code reads of graph and rules is what the state says

pub starts_is : (s : State) (stored : Graph) (refs : ℕ → Bool) (ruled : RuleSet) (key : EdgeKey) → IsGraphOf s stored refs ruled → Ordered s.graph →
    edge_stands s.graph key ≡ true → starts s key.edge key.from key.to ≡ takes_last ruled refs stored key
starts_is s stored refs ruled key i o e =
    let row = some_of (edge_at s.graph key) e in
    last_by_count s.rules refs s.graph key row.0 i.counts o.edges row.1
    ∙ sym (ap (λ (r : RuleSet). takes_last r refs stored key) i.rules ∙ ap (λ (g : Graph). takes_last s.rules refs g key) i.graph)

pub condemns_is : (s : State) (stored : Graph) (refs : ℕ → Bool) (ruled : RuleSet) (key : EdgeKey) → IsGraphOf s stored refs ruled → Ordered s.graph →
    edge_stands s.graph key ≡ true → condemns s.rules (changed s.graph (TakesEdge key)) key ≡ condemns_before ruled refs stored key
condemns_is s stored refs ruled key i o e =
    let row = some_of (edge_at s.graph key) e in
    condemns_by_count s.rules refs s.graph key row.0 i.counts o.edges row.1
    ∙ sym (ap (λ (r : RuleSet). condemns_before r refs stored key) i.rules ∙ ap (λ (g : Graph). condemns_before s.rules refs g key) i.graph)

-- an unlink

module _ (s : State) (e : Entry) (tag : Tag) (key : EdgeKey) (name : ℕ) (t : Table) (stored : Graph) (refs : ℕ → Bool) (ruled : RuleSet)
    (what : e.what ≡ Unlink tag key.edge key.from key.to name) (h : IsTableOf s t) (i : IsGraphOf s stored refs ruled) (o : Ordered stored) (l : is_legal s e ≡ true) where
  unlink_order : Ordered s.graph
  unlink_order = subst (λ (g : Graph). Ordered g) i.graph o

  unlink_legal : is_legal s (record { moment = e.moment; what = Unlink tag key.edge key.from key.to name }) ≡ true
  unlink_legal = legal_as s e (Unlink tag key.edge key.from key.to name) what l

  unlink_starts : starts s key.edge key.from key.to ≡ takes_last ruled refs stored key
  unlink_starts = starts_is s stored refs ruled key i unlink_order (unlink_facts s e.moment key.edge key.from key.to name tag unlink_legal).4

  pub unlink_started_applied : (new : Table) → takes_last ruled refs stored key ≡ true →
      new ≡ record (noted_start t e.moment (Some tag.seat) key.to (Named name) (t.owed - 2)) { owners = new.owners } →
      Gains t.owners new.owners key.to t.len → IsTableOf (step s e) new
  unlink_started_applied new b q g =
      let pushed = noted_start t e.moment (Some tag.seat) key.to (Named name) (t.owed - 2) in
      gained (step s e) t.owners key.to t.len pushed new
      (applied s e (Unlink tag key.edge key.from key.to name) pushed pushed what
      (λ m. unlink_started_step s e.moment key.edge key.from key.to name tag t unlink_order h m (unlink_starts ∙ b)) refl l)
      refl (h.owners key.to ∙ (unlink_facts s e.moment key.edge key.from key.to name tag unlink_legal).3) q g

  pub unlink_started_enough : takes_last ruled refs stored key ≡ true → 2 ≤ t.owed
  unlink_started_enough b =
      omega (arith, h.owed, unlink_started_owed s e.moment key.edge key.from key.to name tag unlink_order h.keeps unlink_legal (unlink_starts ∙ b))

  pub unlink_free : owner_among t.owners key.to ≡ None
  unlink_free = h.owners key.to ∙ (unlink_facts s e.moment key.edge key.from key.to name tag unlink_legal).3

  pub unlink_plain_applied : (new : Table) → takes_last ruled refs stored key ≡ false →
      new ≡ noted t e.moment (Some tag.seat) (t.owed - 1) → IsTableOf (step s e) new
  unlink_plain_applied new b q =
      applied s e (Unlink tag key.edge key.from key.to name) (noted t e.moment (Some tag.seat) (t.owed - 1)) new what
      (λ m. unlink_plain_step s e.moment key.edge key.from key.to name tag t unlink_order h m (unlink_starts ∙ b)) q l

  pub unlink_plain_enough : takes_last ruled refs stored key ≡ false → 1 ≤ t.owed
  unlink_plain_enough b =
      omega (arith, h.owed, unlink_plain_owed s e.moment key.edge key.from key.to name tag unlink_order h.keeps unlink_legal (unlink_starts ∙ b))

-- a cut

module _ (s : State) (e : Entry) (job : ℕ) (key : EdgeKey) (t : Table) (stored : Graph) (refs : ℕ → Bool) (ruled : RuleSet)
    (what : e.what ≡ Cut job key.edge key.from key.to) (h : IsTableOf s t) (i : IsGraphOf s stored refs ruled) (o : Ordered stored) (l : is_legal s e ≡ true) where
  cut_order : Ordered s.graph
  cut_order = subst (λ (g : Graph). Ordered g) i.graph o

  cut_legal : is_legal s (record { moment = e.moment; what = Cut job key.edge key.from key.to }) ≡ true
  cut_legal = legal_as s e (Cut job key.edge key.from key.to) what l

  pub cut_found : CutFacts s e.moment job key.edge key.from key.to
  cut_found = cut_facts s e.moment job key.edge key.from key.to cut_order h.keeps cut_legal

  pub cut_stored : edge_stands stored key ≡ true
  cut_stored = ap (λ (g : Graph). edge_stands g key) i.graph ∙ ap is_some cut_found.edge_is

  -- what the code logs
  pub cut_logged : (it : Item) → ((row : EdgeRow) → edge_at stored key ≡ Some row → it ≡ item.Edge job row (birth_of stored row.key.from) (birth_of stored row.key.to)) →
      it ≡ cut_item s job cut_found.row
  cut_logged it f =
      f cut_found.row (ap (λ (g : Graph). edge_at g key) i.graph ∙ cut_found.edge_is)
      ∙ ap (λ (g : Graph). item.Edge job cut_found.row (birth_of g cut_found.row.key.from) (birth_of g cut_found.row.key.to)) i.graph

  cut_passes : passes s key.edge key.from key.to ≡ (is_none (owner s key.to) && condemns_before ruled refs stored key)
  cut_passes = ap (λ (b : Bool). is_none (owner s key.to) && b) (condemns_is s stored refs ruled key i cut_order (ap is_some cut_found.edge_is))

  pub cut_passing_applied : (new : Table) (it : Item) → it ≡ cut_item s job cut_found.row →
      (is_none (owner s key.to) && condemns_before ruled refs stored key) ≡ true →
      new ≡ record (noted_item t e.moment job it (t.owed - 3)) { owners = new.owners } → Gains t.owners new.owners key.to job → IsTableOf (step s e) new
  cut_passing_applied new it f b q g =
      let pushed = record (noted_item t e.moment job (cut_item s job cut_found.row) (t.owed - 3)) { owners = t.owners ++ (key.to, job) ∷ [] } in
      gained (step s e) t.owners key.to job pushed new
      (applied s e (Cut job key.edge key.from key.to) pushed pushed what
      (λ m. cut_passing_step s e.moment job key.edge key.from key.to t cut_order h cut_found (cut_passes ∙ b)) refl l)
      refl (h.owners key.to ∙ none_of (owner s key.to) (both (is_none (owner s key.to)) (condemns_before ruled refs stored key) b).0)
      (q ∙ ap (λ (v : Item). record (noted_item t e.moment job v (t.owed - 3)) { owners = new.owners }) f) g

  pub cut_passing_enough : (is_none (owner s key.to) && condemns_before ruled refs stored key) ≡ true → 3 ≤ t.owed
  cut_passing_enough b =
      omega (arith, h.owed, cut_passing_owed s e.moment job key.edge key.from key.to cut_order h.keeps cut_found (cut_passes ∙ b))

  pub cut_free : (is_none (owner s key.to) && condemns_before ruled refs stored key) ≡ true → owner_among t.owners key.to ≡ None
  cut_free b = h.owners key.to ∙ none_of (owner s key.to) (both (is_none (owner s key.to)) (condemns_before ruled refs stored key) b).0

  pub cut_plain_applied : (new : Table) (it : Item) → it ≡ cut_item s job cut_found.row → (is_none (owner s key.to) && condemns_before ruled refs stored key) ≡ false →
      new ≡ noted_item t e.moment job it (t.owed - 1) → IsTableOf (step s e) new
  cut_plain_applied new it f b q =
      applied s e (Cut job key.edge key.from key.to) (noted_item t e.moment job (cut_item s job cut_found.row) (t.owed - 1)) new what
      (λ m. cut_plain_step s e.moment job key.edge key.from key.to t cut_order h cut_found (cut_passes ∙ b))
      (q ∙ ap (λ (v : Item). noted_item t e.moment job v (t.owed - 1)) f) l

  pub cut_plain_enough : (is_none (owner s key.to) && condemns_before ruled refs stored key) ≡ false → 1 ≤ t.owed
  cut_plain_enough b =
      omega (arith, h.owed, cut_plain_owed s e.moment job key.edge key.from key.to cut_order h.keeps cut_found (cut_passes ∙ b))

-- an erase

module _ (s : State) (e : Entry) (job id : ℕ) (t : Table) (stored : Graph) (refs : ℕ → Bool) (ruled : RuleSet)
    (what : e.what ≡ Erase job id) (h : IsTableOf s t) (i : IsGraphOf s stored refs ruled) (o : Ordered stored) (l : is_legal s e ≡ true) where
  erase_order : Ordered s.graph
  erase_order = subst (λ (g : Graph). Ordered g) i.graph o

  pub erase_found : EraseFacts s job id
  erase_found = erase_facts s e.moment job id erase_order h.keeps (legal_as s e (Erase job id) what l)

  pub erase_stored : object_at stored id ≡ Some erase_found.row
  erase_stored = ap (λ (g : Graph). object_at g id) i.graph ∙ erase_found.row_is

  pub erase_owner : owner_among t.owners id ≡ Some job
  erase_owner = h.owners id ∙ erase_found.owns

  pub erase_enough : 1 ≤ t.owed
  erase_enough = omega (arith, h.owed, erase_owed s e.moment job id erase_order h.keeps erase_found)

  pub erase_applied : (new : Table) (row : ObjectRow) → Some row ≡ object_at stored id →
      new ≡ record (noted_item t e.moment job (item.Object job row) (t.owed - 1)) { owners = new.owners } →
      ((other : ℕ) → owner_among new.owners other ≡ cond (nat_eq other id) None (owner_among t.owners other)) →
      ((other : ℕ) → owned_among new.owners other + cond (is_job other (owner_among t.owners id)) 1 0 ≡ owned_among t.owners other) →
      IsTableOf (step s e) new
  erase_applied new row f q owners owned' =
      let same : row ≡ erase_found.row = cc (f ∙ erase_stored) in
      applied s e (Erase job id) (record (noted_item t e.moment job (item.Object job erase_found.row) (t.owed - 1)) { owners = new.owners }) new what
      (λ m. erase_step s e.moment job id t new.owners erase_order h erase_found owners owned')
      (q ∙ ap (λ (r : ObjectRow). record (noted_item t e.moment job (item.Object job r) (t.owed - 1)) { owners = new.owners }) same) l

-- a put

module _ (s : State) (e : Entry) (job n : ℕ) (t : Table) (stored : Graph) (refs : ℕ → Bool) (ruled : RuleSet)
    (what : e.what ≡ Put job n) (h : IsTableOf s t) (i : IsGraphOf s stored refs ruled) (o : Ordered stored) (l : is_legal s e ≡ true) where
  put_order : Ordered s.graph
  put_order = subst (λ (g : Graph). Ordered g) i.graph o

  pub put_found : PutFacts s job n
  put_found = put_facts s e.moment job n (legal_as s e (Put job n) what l)

  pub put_item_is : item_at s n ≡ Some put_found.logged.item
  put_item_is = ap (option_map item_of_logged) put_found.item_is

  put_same_item : (it : Item) → Some it ≡ item_at s n → it ≡ put_found.logged.item
  put_same_item it f = cc (f ∙ put_item_is)

  pub put_enough : (it : Item) → Some it ≡ item_at s n → item_weight it ≤ t.owed
  put_enough it f = omega (arith, h.owed, item_within s job n put_found, ap item_weight (put_same_item it f))

  pub put_applied : (new : Table) (it : Item) (cause : Option Cause) → Some it ≡ item_at s n → cause ≡ judged s it →
      new ≡ noted_put t e.moment n (record { put = t.len; cause = cause }) (t.owed + put_weight cause it - item_weight it) → IsTableOf (step s e) new
  put_applied new it cause f j q =
      applied s e (Put job n) (noted_put t e.moment n (record { put = t.len; cause = judged s put_found.logged.item }) (t.owed + put_weight (judged s put_found.logged.item) put_found.logged.item - item_weight put_found.logged.item)) new what
      (λ m. put_step s e.moment job n t put_order h put_found)
      (q ∙ ap (λ (v : Option Cause). noted_put t e.moment n (record { put = t.len; cause = v }) (t.owed + put_weight v it - item_weight it)) j
      ∙ ap (λ (v : Item). noted_put t e.moment n (record { put = t.len; cause = judged s v }) (t.owed + put_weight (judged s v) v - item_weight v)) (put_same_item it f)) l

-- the other kinds

module _ (s : State) (e : Entry) (t : Table) (stored : Graph) (refs : ℕ → Bool) (ruled : RuleSet)
    (h : IsTableOf s t) (i : IsGraphOf s stored refs ruled) (o : Ordered stored) (l : is_legal s e ≡ true) where
  order : Ordered s.graph
  order = subst (λ (g : Graph). Ordered g) i.graph o

  pub create_applied : (tag : Tag) (kind id size : ℕ) (new : Table) → e.what ≡ Create tag kind id size → new ≡ noted t e.moment (Some tag.seat) (t.owed + 3) → IsTableOf (step s e) new
  create_applied tag kind id size new w q =
      applied s e (Create tag kind id size) (noted t e.moment (Some tag.seat) (t.owed + 3)) new w (λ m. create_step s e.moment kind id size tag t order h m) q l

  pub create_room : (tag : Tag) (kind id size : ℕ) → e.what ≡ Create tag kind id size → t.len + 1 + (t.owed + 3) ≤ 500000
  create_room tag kind id size w =
      room_of (step s (record { moment = e.moment; what = Create tag kind id size })) (noted t e.moment (Some tag.seat) (t.owed + 3))
      (create_step s e.moment kind id size tag t order h (legal_as s e (Create tag kind id size) w l))

  pub link_applied : (tag : Tag) (edge from to size : ℕ) (new : Table) → e.what ≡ Link tag edge from to size → new ≡ noted t e.moment (Some tag.seat) (t.owed + 1) → IsTableOf (step s e) new
  link_applied tag edge from to size new w q =
      applied s e (Link tag edge from to size) (noted t e.moment (Some tag.seat) (t.owed + 1)) new w (λ m. link_step s e.moment edge from to size tag t order h m) q l

  pub link_room : (tag : Tag) (edge from to size : ℕ) → e.what ≡ Link tag edge from to size → t.len + 1 + (t.owed + 1) ≤ 500000
  link_room tag edge from to size w =
      room_of (step s (record { moment = e.moment; what = Link tag edge from to size })) (noted t e.moment (Some tag.seat) (t.owed + 1))
      (link_step s e.moment edge from to size tag t order h (legal_as s e (Link tag edge from to size) w l))

  pub update_applied : (tag : Tag) (id size : ℕ) (new : Table) → e.what ≡ Update tag id size → new ≡ noted t e.moment (Some tag.seat) (t.owed + 0) → IsTableOf (step s e) new
  update_applied tag id size new w q =
      applied s e (Update tag id size) (noted t e.moment (Some tag.seat) t.owed) new w (λ m. update_step s e.moment id size tag t order h m)
      (q ∙ ap (λ (n : ℕ). noted t e.moment (Some tag.seat) n) same) l
    where
      same : t.owed + 0 ≡ t.owed
      same = omega arith

  pub update_room : (tag : Tag) (id size : ℕ) → e.what ≡ Update tag id size → t.len + 1 + (t.owed + 0) ≤ 500000
  update_room tag id size w =
      let r = room_of (step s (record { moment = e.moment; what = Update tag id size })) (noted t e.moment (Some tag.seat) t.owed)
      (update_step s e.moment id size tag t order h (legal_as s e (Update tag id size) w l)) in omega (arith, r)

  pub delete_applied : (tag : Tag) (id name : ℕ) (new : Table) → e.what ≡ Delete tag id name →
      new ≡ record (noted_start t e.moment (Some tag.seat) id (Named name) (t.owed - 1)) { owners = new.owners } → Gains t.owners new.owners id t.len → IsTableOf (step s e) new
  delete_applied tag id name new w q g =
      let pushed = noted_start t e.moment (Some tag.seat) id (Named name) (t.owed - 1) in
      gained (step s e) t.owners id t.len pushed new
      (applied s e (Delete tag id name) pushed pushed w (λ m. delete_step s e.moment id name tag t order h m) refl l)
      refl (h.owners id ∙ (delete_facts s e.moment id name tag (legal_as s e (Delete tag id name) w l)).2) q g

  pub delete_enough : (tag : Tag) (id name : ℕ) → e.what ≡ Delete tag id name → 1 ≤ t.owed
  delete_enough tag id name w = omega (arith, h.owed, delete_owed s e.moment id name tag order h.keeps (legal_as s e (Delete tag id name) w l))

  pub delete_free : (tag : Tag) (id name : ℕ) → e.what ≡ Delete tag id name → owner_among t.owners id ≡ None
  delete_free tag id name w = h.owners id ∙ (delete_facts s e.moment id name tag (legal_as s e (Delete tag id name) w l)).2

  pub expire_applied : (id : ℕ) (new : Table) → e.what ≡ Expire id →
      new ≡ record (noted_start t e.moment None id (Expiry id) (t.owed - 1)) { owners = new.owners } → Gains t.owners new.owners id t.len → IsTableOf (step s e) new
  expire_applied id new w q g =
      let pushed = noted_start t e.moment None id (Expiry id) (t.owed - 1) in
      gained (step s e) t.owners id t.len pushed new
      (applied s e (Expire id) pushed pushed w (λ m. expire_step s e.moment id t order h m) refl l)
      refl (h.owners id ∙ (expire_facts s e.moment id (legal_as s e (Expire id) w l)).2) q g

  pub expire_enough : (id : ℕ) → e.what ≡ Expire id → 1 ≤ t.owed
  expire_enough id w = omega (arith, h.owed, expire_owed s e.moment id order h.keeps (legal_as s e (Expire id) w l))

  pub expire_free : (id : ℕ) → e.what ≡ Expire id → owner_among t.owners id ≡ None
  expire_free id w = h.owners id ∙ (expire_facts s e.moment id (legal_as s e (Expire id) w l)).2

  pub restore_applied : (tag : Tag) (job : ℕ) (new : Table) → e.what ≡ Restore tag job →
      new ≡ noted_restore t e.moment (Some tag.seat) job (t.owed + sum_by (weight_of job) t.items) → IsTableOf (step s e) new
  restore_applied tag job new w q =
      applied s e (Restore tag job) (noted_restore t e.moment (Some tag.seat) job (t.owed + sum_by (weight_of job) t.items)) new w (λ m. restore_step s e.moment job tag t order h m) q l

  pub restore_room : (tag : Tag) (job : ℕ) → e.what ≡ Restore tag job → t.len + 1 + (t.owed + sum_by (weight_of job) t.items) ≤ 500000
  restore_room tag job w =
      room_of (step s (record { moment = e.moment; what = Restore tag job })) (noted_restore t e.moment (Some tag.seat) job (t.owed + sum_by (weight_of job) t.items))
      (restore_step s e.moment job tag t order h (legal_as s e (Restore tag job) w l))

  pub purge_applied : (job : ℕ) (new : Table) → e.what ≡ Purge job → new ≡ noted_purge t e.moment job (t.owed - 1) → IsTableOf (step s e) new
  purge_applied job new w q =
      applied s e (Purge job) (noted_purge t e.moment job (t.owed - 1)) new w (λ m. purge_step s e.moment job t order h m) q l

  pub purge_enough : (job : ℕ) → e.what ≡ Purge job → 1 ≤ t.owed
  purge_enough job w = omega (arith, h.owed, purge_owed s e.moment job h.keeps (legal_as s e (Purge job) w l))
