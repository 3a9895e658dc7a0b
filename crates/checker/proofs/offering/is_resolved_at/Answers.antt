use Rattle.std.proofs.Common.{length, refl}
use Rattle.std.proofs.lemmas.Bool.{OnTrue_from}
use Rattle.std.proofs.lemmas.Option.{slice_get_read}
use Rattle.checker.proofs.offering.is_resolved_at.Goals as goal

pub returns-then-place-known : goal.returns-then-place-known
returns-then-place-known c =
    OnTrue_from c.is_resolved.result _ (λ t.
    record {
      line = c.index-known-place.result;
      at = slice_get_read c.args.known.now (length c.args.known.now) c.args.place c.index-known-place.result refl c.if-place-known.true c.index-known-place.is;
      resolved = c.is_resolved.ensures.0 t;
    })
