use Rattle.std.proofs.Common.{◌≡◌, ◌<◌, ◌≤◌, ◌∙◌, ap, arith, false, length, nat_lt, refl, rules, sym, true}
use Rattle.std.specs.Prelude.{Some, slice_get}
use Rattle.std.proofs.lemmas.Option.{slice_get_read}
use Rattle.registry.specs.Publications.{PublicationList}
use Rattle.registry.specs.Registry.{needs_or_none}
use Rattle.registry.proofs.Alike.{counted-at, needs-releases, nothing-past}
use Rattle.registry.proofs.publications.Publications.needs_count.Goals as goal

pub returns-in-None : goal.returns-in-None
returns-in-None c =
    let releases = c.self.inside.releases.releases in
    let needs = c.self.inside.needs.items in
    let there : nat_lt c.args.ordinal (length c.deref.result.now) ≡ false = sym c.in-None.ensures.lookup.0 in
    let past : length c.deref.result.now ≤ c.args.ordinal = search rules in
    sym (nothing-past needs c.args.ordinal (omega (arith, past, ap length c.deref.ensures.value, c.self.invariant.3)))
    ∙ sym (ap length (needs-releases releases needs c.args.ordinal c.self.invariant.0))
    ∙ ap (λ (l : PublicationList). length (needs_or_none (slice_get l.publications c.args.ordinal))) c.self.view_is

pub returns-in-Some : goal.returns-in-Some
returns-in-Some c =
    let releases = c.self.inside.releases.releases in
    let needs = c.self.inside.needs.items in
    let spans = c.deref.result.now in
    let there : nat_lt c.args.ordinal (length spans) ≡ true = sym c.in-Some.ensures.lookup.0 in
    let within : c.args.ordinal < length spans = search rules in
    let at : slice_get spans c.args.ordinal ≡ Some c.in-Some.span.now = slice_get_read spans (length spans) c.args.ordinal c.in-Some.span.now refl within c.in-Some.ensures.lookup.1 in
    counted-at c.self.inside.spans.items needs c.args.ordinal c.in-Some.span.now c.self.invariant.5 (rw c.deref.ensures.value at at)
    ∙ sym (ap length (needs-releases releases needs c.args.ordinal c.self.invariant.0))
    ∙ ap (λ (l : PublicationList). length (needs_or_none (slice_get l.publications c.args.ordinal))) c.self.view_is
