use Rattle.std.proofs.Common.{◌≡◌, ℕ, cond, Some, true, sym, ap, ◌∙◌, arith}
use Rattle.std.specs.Prelude.{nat_eq, is_none, unwrap_or}
use Rattle.std.specs.HashMap.{get}
use Rattle.job_table.specs.Parts.{logged_of}
use Rattle.job_table.proofs.OpenEnds.{counted_less, counted_same, none_there, some_there}
use Rattle.job_table.proofs.ends.close.Goals as goal

pub returns-in-Some-clause-count : goal.returns-in-Some-clause-count
returns-in-Some-clause-count c =
    let left : is_none (logged_of c.args.kept.now).handled ≡ true = sym c.is_open.ensures ∙ c.if-not-is_open.false in
    let some = c.requires.open c.in-Some.key (some_there c.in-Some.key _ _ c.in-Some.ensures left) in
    λ q. counted_less c.in-Some.key c.count_of-count.result (get nat_eq c.args.ends.now) (get nat_eq c.set.new.ends) _ _ c.in-Some.ensures left c.count_of-count.ensures (omega (arith, some, c.count_of-count.ensures))
    (λ other. c.set.ensures.value other ∙ ap (λ (m : ℕ). cond (nat_eq c.in-Some.key other) (Some m) (get nat_eq c.args.ends.now other)) c.saturating_sub.ensures) q

pub returns-in-None-clause-count : goal.returns-in-None-clause-count
returns-in-None-clause-count c = λ q. none_there (unwrap_or (get nat_eq c.args.ends.now q) 0) q _ _ c.in-None.ensures

pub returns-then-not-is_open-clause-count : goal.returns-then-not-is_open-clause-count
returns-then-not-is_open-clause-count c = λ q. counted_same (unwrap_or (get nat_eq c.args.ends.now q) 0) _ _ q (sym c.is_open.ensures ∙ c.if-not-is_open.true)
