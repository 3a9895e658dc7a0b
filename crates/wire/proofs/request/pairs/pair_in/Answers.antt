use Rattle.std.proofs.Common.{None, Some}
use Rattle.wire.proofs.RequestLemmas.{other_length, pair_read, unread_pair}
use Rattle.wire.proofs.request.pairs.pair_in.Goals as goal

pub returns-then-items-ne2 : goal.returns-then-items-ne2
returns-then-items-ne2 c = other_length 2 c.args.items.now _ c.if-items-ne2.true

pub returns-in_err-as_str : goal.returns-in_err-as_str
returns-in_err-as_str c = rw c.from_residual.ensures (unread_pair c.args.items.now _ c.if-items-ne2.false c.index-items-0.is c.in_err-as_str.ensures)

pub returns-in_err-as_str-2 : goal.returns-in_err-as_str-2
returns-in_err-as_str-2 c =
    rw c.from_residual-in_err-as_str-2.ensures
    (pair_read c.args.items.now c.index-items-0.result c.index-items-1.result c.in_ok-as_str.field-0.now None c.if-items-ne2.false c.index-items-0.is c.index-items-1.is c.in_ok-as_str.ensures c.in_err-as_str-2.ensures)

pub returns : goal.returns
returns c =
    pair_read c.args.items.now c.index-items-0.result c.index-items-1.result c.in_ok-as_str.field-0.now (Some c.in_ok-as_str-2.field-0.now) c.if-items-ne2.false c.index-items-0.is c.index-items-1.is
    c.in_ok-as_str.ensures c.in_ok-as_str-2.ensures
