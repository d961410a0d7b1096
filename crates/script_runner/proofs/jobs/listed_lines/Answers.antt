use Rattle.std.proofs.Common.{List, ◌++◌, flat_map, sym, ap, ◌∙◌, take, arith}
use Rattle.delf_model.specs.Report.{listed_from}
use Rattle.delf_book.specs.Books.{state_in}
use Rattle.script_runner.specs.Serial.{listed_line}
use Rattle.script_runner.proofs.Listing.{lines_none, lines_left, item_below, lines_ended, lines_at_end}
use Rattle.script_runner.proofs.jobs.listed_lines.Goals as goal

pub rows-init : goal.rows-init
rows-init g c =
    ap (λ (t : List _). t ++ flat_map (listed_line c.args.schema.now) (listed_from c.args.job 0 (take c.len-below.result (state_in c.args.book.now).items))) c.new-text.ensures.items
    ∙ lines_none (listed_line c.args.schema.now) c.args.book.now.rules c.args.book.now.history c.args.job c.len-below.result c.len-below.ensures.value

pub returns-in_default : goal.returns-in_default
returns-in_default g c =
    c.from_vec.ensures
    ∙ lines_ended (listed_line c.args.schema.now) (listed_from c.args.job 0 (take c.rows.below (state_in c.args.book.now).items)) c.rows.text.items
    (flat_map (listed_line c.args.schema.now) (listed_from c.args.job 0 (state_in c.args.book.now).items))
    (sym c.in_default.is ∙ c.listed_before.ensures.listed) c.rows.invariant

pub rows-smaller : goal.rows-smaller
rows-smaller g c = item_below c.args.job c.rows.below (state_in c.args.book.now).items c.in-Some.row c.in-Some.ensures.listed

pub rows-preserved : goal.rows-preserved
rows-preserved g c =
    lines_left (listed_line c.args.schema.now) c.args.job c.rows.below (state_in c.args.book.now).items c.in-Some.row c.rows.text.items
    c.extend_from_slice.new.self.items c.as_slice.result.now (flat_map (listed_line c.args.schema.now) (listed_from c.args.job 0 (state_in c.args.book.now).items))
    c.in-Some.ensures.listed c.rows.invariant (c.as_slice.ensures ∙ c.in_ok-line.ensures) c.in_ok-extend_from_slice.ensures.items

pub returns : goal.returns
returns g c =
    c.from_vec-2.ensures
    ∙ lines_at_end (listed_line c.args.schema.now) c.args.job c.rows.below (state_in c.args.book.now).items c.rows.text.items
    (flat_map (listed_line c.args.schema.now) (listed_from c.args.job 0 (state_in c.args.book.now).items)) (omega arith) c.rows.invariant
