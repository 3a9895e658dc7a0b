use Rattle.std.proofs.Common.{◌≡◌, arith, refl, take}
use Rattle.std.proofs.lemmas.List.{take_all}
use Rattle.registry.specs.Registry.{package_at, versions_or_none}
use Rattle.std.proofs.lemmas.Result.{err_from_is_err_and}
use Rattle.std.proofs.lemmas.Bool.{false≢true}
use Rattle.replies.specs.Entries.{publication_json}
use Rattle.replies.proofs.ListingLemmas.{is_published-below, publication_at-slice_get}
use Rattle.replies.proofs.PutLemmas.{fails_in, in_fails, in_put, put_in, value_fails, value_put, value_room, value_waits}
use Rattle.replies.proofs.listing.text.put_versions.Goals as goal

pub facts-facts-requires : goal.facts-facts-requires
facts-facts-requires g c = is_published-below c.args.registry.now.packages c.args.number c.loop-ordinal.ordinal (omega (arith, c.version_count-count.ensures))

pub returns-in_err-put_version-clause-text : goal.returns-in_err-put_version-clause-text
returns-in_err-put_version-clause-text g c =
    let err = err_from_is_err_and c.from_residual.result c.from_residual.ensures.1 in
    let here = publication_at-slice_get c.args.registry.now.packages c.args.number c.loop-ordinal.ordinal _ c.facts-facts.ensures in
    rw err.1 (in_fails (value_fails publication_json _ c.loop-ordinal.ordinal _ here c.loop-ordinal.invariant.put (fails_in c.in_err-put_version.ensures.text)))

pub returns-in_err-put_version-clause-waits : goal.returns-in_err-put_version-clause-waits
returns-in_err-put_version-clause-waits g c = λ fits.
    let here = publication_at-slice_get c.args.registry.now.packages c.args.number c.loop-ordinal.ordinal _ c.facts-facts.ensures in
    let room = value_room publication_json _ c.loop-ordinal.ordinal _ here c.args.outbox.now c.loop-ordinal.outbox fits (c.loop-ordinal.invariant.waits fits) in
    let failed = (c.in_err-put_version.ensures.waits room).0 in
    absurd (false≢true failed)

pub loop-ordinal-preserved : goal.loop-ordinal-preserved
loop-ordinal-preserved g c =
    let here = publication_at-slice_get c.args.registry.now.packages c.args.number c.loop-ordinal.ordinal _ c.facts-facts.ensures in
    record {
      put = value_put publication_json _ c.loop-ordinal.ordinal _ here c.loop-ordinal.invariant.put (put_in c.in_ok-put_version.ensures.text);
      waits = λ fits. let before = c.loop-ordinal.invariant.waits fits in
          let room = value_room publication_json _ c.loop-ordinal.ordinal _ here c.args.outbox.now c.loop-ordinal.outbox fits before in
          value_waits publication_json _ c.loop-ordinal.ordinal _ here c.args.outbox.now c.loop-ordinal.outbox c.put_version.new.outbox before
          (c.in_ok-put_version.ensures.waits room).1;
    }

pub returns-clause-text : goal.returns-clause-text
returns-clause-text g c =
    let versions = versions_or_none (package_at c.args.registry.now.packages c.args.number) in
    let all : take c.loop-ordinal.ordinal versions ≡ versions = take_all c.loop-ordinal.ordinal versions (omega (arith, c.version_count-count.ensures)) in
    in_put (rw all at c.loop-ordinal.invariant.put)

pub returns-clause-waits : goal.returns-clause-waits
returns-clause-waits g c = λ fits.
    let versions = versions_or_none (package_at c.args.registry.now.packages c.args.number) in
    let all : take c.loop-ordinal.ordinal versions ≡ versions = take_all c.loop-ordinal.ordinal versions (omega (arith, c.version_count-count.ensures)) in
    (refl, rw all at (c.loop-ordinal.invariant.waits fits))
