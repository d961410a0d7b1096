use Rattle.seat_lock.specs.Locks.{view}
use Rattle.seat_lock.proofs.Numbers.{both_listed}
use Rattle.seat_lock.proofs.tests.numbers.filled_by_two.Goals as goal

pub returns-clause-one : goal.returns-clause-one
returns-clause-one g c =
    let one = rw c.unwrap-one.ensures at c.split.ensures.seat in
    let two = rw c.unwrap-two.ensures at c.split-2.ensures.seat in
    let first = c.join-one.ensures.first in
    let second = c.join-one.ensures.second in
    (both_listed c.close-list.result.list.items c.no_numbers.result.list.items (view c.in-Ok.root) (view c.split.new.root) (view c.split-2.new.root) (view c.join.new.root) (view c.join-2.new.root) (view c.join-one.result.0.1) (view c.join-one.result.1.1)
    (view c.unwrap-one.result) (view c.unwrap-two.result) c.join-one.result.0.0 c.join-one.result.1.0 c.in-Ok.ensures.root c.split.ensures.root.1 one.1 c.split-2.ensures.root.1 two.1 first.1.0 first.1.1.0 second.1.0 second.1.1.0 c.join.ensures.root.1 c.join-2.ensures.root.1 c.close-list.ensures.joined).0

pub returns-clause-two : goal.returns-clause-two
returns-clause-two g c =
    let one = rw c.unwrap-one.ensures at c.split.ensures.seat in
    let two = rw c.unwrap-two.ensures at c.split-2.ensures.seat in
    let first = c.join-one.ensures.first in
    let second = c.join-one.ensures.second in
    (both_listed c.close-list.result.list.items c.no_numbers.result.list.items (view c.in-Ok.root) (view c.split.new.root) (view c.split-2.new.root) (view c.join.new.root) (view c.join-2.new.root) (view c.join-one.result.0.1) (view c.join-one.result.1.1)
    (view c.unwrap-one.result) (view c.unwrap-two.result) c.join-one.result.0.0 c.join-one.result.1.0 c.in-Ok.ensures.root c.split.ensures.root.1 one.1 c.split-2.ensures.root.1 two.1 first.1.0 first.1.1.0 second.1.0 second.1.1.0 c.join.ensures.root.1 c.join-2.ensures.root.1 c.close-list.ensures.joined).1
