use Rattle.std.proofs.Common.{◌∙◌, Option, ap, option_map}
use Rattle.wire.specs.DerivedShapes.{cause_said}
use Rattle.wire.specs.declared.request.cause_shapes.CauseShape.{CauseShape}
use Rattle.by_name.specs.NamedLines.{NamedCause}
use Rattle.wire.proofs.RequestLemmas.{causes_read, other_length}
use Rattle.wire.proofs.request.cause_shapes.causes_of.Goals as goal

pub returns-then-items-ne2 : goal.returns-then-items-ne2
returns-then-items-ne2 c = other_length 2 c.args.items.now _ c.if-items-ne2.true

pub returns : goal.returns
returns c =
    ap (λ (o : Option (CauseShape × CauseShape)). option_map {U = NamedCause × NamedCause} (λ (pair : CauseShape × CauseShape). (cause_said pair.0, cause_said pair.1)) o) c.zip.ensures
    ∙ causes_read cause_said c.args.items.now c.index-items-0.result c.index-items-1.result c.cause_in.result c.cause_in-2.result c.if-items-ne2.false c.index-items-0.is c.index-items-1.is
    c.cause_in.ensures c.cause_in-2.ensures
