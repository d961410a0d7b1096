use Rattle.std.proofs.Common.{◌<◌, ◌≤◌, ℕ, List, length, ◌∙◌, arith}
use Rattle.schema_checks.specs.Routes.{IsPrintedRoute}
use Rattle.documents.proofs.Routes.{route_of, edge_is_there, names_more, names_end, names_all, type_is_there}
use Rattle.documents.proofs.check.route_names.Goals as goal

pub returns-in_default : goal.returns-in_default
returns-in_default c =
    let printed : (route : List ℕ) × IsPrintedRoute c.args.checked.now c.args.kind route =
    c.in_default.ensures.printed (route_of c.args.schema.now c.args.checked.now c.args.kind c.requires.rules c.requires.by_any) in
    names_end c.args.schema.now c.args.checked.now c.args.kind c.loop-place.place printed.0 c.loop-place.names c.requires.rules printed.1
    (c.in_default.ensures.exact printed.0 printed.1) (c.loop-place.invariant.names printed.0 printed.1)

pub edge_name-requires : goal.edge_name-requires
edge_name-requires c =
    let printed : (route : List ℕ) × IsPrintedRoute c.args.checked.now c.args.kind route =
    c.in-Some.ensures.printed (route_of c.args.schema.now c.args.checked.now c.args.kind c.requires.rules c.requires.by_any) in
    edge_is_there c.args.schema.now c.args.checked.now c.args.kind c.loop-place.place c.in-Some.edge printed.0 c.requires.rules printed.1
    (c.in-Some.ensures.exact printed.0 printed.1)

pub loop-place-preserved : goal.loop-place-preserved
loop-place-preserved c = record {
  names = λ route printed. names_more c.args.schema.now route c.loop-place.place c.in-Some.edge c.loop-place.names c.push.new.self c.in_ok-copied.field-0
      (c.in-Some.ensures.exact route printed) (c.loop-place.invariant.names route printed) (c.in_ok-copied.ensures ∙ c.edge_name.ensures) c.in_ok-push.ensures.ok;
  printed = λ above. c.in-Some.ensures.printed (route_of c.args.schema.now c.args.checked.now c.args.kind c.requires.rules c.requires.by_any);
}

pub returns : goal.returns
returns c =
    let there : c.args.kind < length c.args.schema.now.objects = type_is_there c.args.schema.now c.args.kind c.requires.by_any in
    let few : length c.args.schema.now.objects ≤ 64 = c.requires.rules.spellable.objects in
    let printed : (route : List ℕ) × IsPrintedRoute c.args.checked.now c.args.kind route = c.loop-place.invariant.printed (omega arith) in
    names_all c.args.schema.now c.args.checked.now c.args.kind c.loop-place.place printed.0 c.loop-place.names c.requires.rules printed.1
    (omega arith) (c.loop-place.invariant.names printed.0 printed.1)
