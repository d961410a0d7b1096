use Rattle.std.proofs.Common.{◌≡◌, true, false, None, List, ap, sym, subst, ◌∙◌, arith}
use Rattle.std.proofs.lemmas.Bool.Decides.{nat_tests}
use Rattle.std.specs.Prelude.{find, filter}
use Rattle.delf_model.specs.declared.rows.ObjectRow.{ObjectRow}
use Rattle.delf_model.specs.Graph.{has_id, put_object}
use Rattle.object_shards.specs.Rows.{expires}
use Rattle.object_shards.specs.ObjectShards.{objects_of}
use Rattle.object_shards.proofs.Expiring.{none_expires, put_lasting, put_expiring}
use Rattle.object_shards.proofs.object_shards.ObjectShards.put_object.Goals as goal

pub invariant_of-self : goal.invariant_of-self
invariant_of-self c =
    let lasts : expires c.args.row ≡ false = (let none = c.if-row-eq0.true in grind (arith, nat_tests, none)) in
    record {
      agree = c.args.self.now.agree
          ∙ sym (ap (filter expires) c.put.ensures.rows ∙ put_lasting c.args.row (objects_of c.args.self.now) c.requires.free lasts);
    }

pub put-requires-2-clause-free : goal.put-requires-2-clause-free
put-requires-2-clause-free c =
    subst (λ (rows : List ObjectRow). find (has_id c.args.row.id) rows ≡ None) (sym c.args.self.now.agree)
    (none_expires c.args.row.id (objects_of c.args.self.now) c.requires.free)

pub invariant_of-self-2 : goal.invariant_of-self-2
invariant_of-self-2 c =
    let ends : expires c.args.row ≡ true = (let some = c.if-row-eq0.false in grind (arith, nat_tests)) in
    record {
      agree = c.put-2.ensures ∙ (ap (put_object c.args.row) c.args.self.now.agree
          ∙ sym (ap (filter expires) c.put.ensures.rows
          ∙ put_expiring c.args.row (objects_of c.args.self.now) c.put.ensures.rose c.requires.free ends));
    }
