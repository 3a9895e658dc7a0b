use Rattle.std.proofs.Common.{None, Some}
use Rattle.wire.proofs.RequestLemmas.{other_length, term_read, unmarked_term, unnamed_term, unread_term}
use Rattle.wire.proofs.request.term_shapes.term_of_items.Goals as goal

pub returns-then-items-ne3 : goal.returns-then-items-ne3
returns-then-items-ne3 c = other_length 3 c.args.items.now _ c.if-items-ne3.true

pub returns-in_err-as_str : goal.returns-in_err-as_str
returns-in_err-as_str c = rw c.from_residual.ensures (unread_term c.args.items.now _ c.if-items-ne3.false c.index-items-0.is c.in_err-as_str.ensures)

pub returns-in_err-name : goal.returns-in_err-name
returns-in_err-name c =
    rw c.from_residual-in_err-name.ensures
    (unnamed_term c.args.items.now c.index-items-0.result c.if-items-ne3.false c.index-items-0.is c.in_ok-as_str.field-0.now c.in_ok-as_str.ensures c.in_err-name.ensures)

pub returns-in_err-positive : goal.returns-in_err-positive
returns-in_err-positive c =
    rw c.from_residual-in_err-positive.ensures
    (unmarked_term c.args.items.now c.index-items-0.result c.if-items-ne3.false c.index-items-0.is c.in_ok-as_str.field-0.now c.in_ok-as_str.ensures c.in_ok-name.name c.index-items-1.result
    c.in_ok-name.ensures c.index-items-1.is c.in_err-positive.ensures)

pub returns-in_err-set : goal.returns-in_err-set
returns-in_err-set c =
    rw c.from_residual-in_err-set.ensures
    (term_read c.args.items.now c.index-items-0.result c.if-items-ne3.false c.index-items-0.is c.in_ok-as_str.field-0.now c.in_ok-as_str.ensures c.in_ok-name.name c.index-items-1.result
    c.in_ok-name.ensures c.index-items-1.is c.in_ok-positive.positive c.index-items-2.result None c.in_ok-positive.ensures c.index-items-2.is c.in_err-set.ensures)

pub returns : goal.returns
returns c =
    term_read c.args.items.now c.index-items-0.result c.if-items-ne3.false c.index-items-0.is c.in_ok-as_str.field-0.now c.in_ok-as_str.ensures c.in_ok-name.name c.index-items-1.result
    c.in_ok-name.ensures c.index-items-1.is c.in_ok-positive.positive c.index-items-2.result (Some c.in_ok-set.set) c.in_ok-positive.ensures c.index-items-2.is c.in_ok-set.ensures
