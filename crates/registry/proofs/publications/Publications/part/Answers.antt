use Rattle.std.proofs.Common.{◌<◌, ◌∙◌, [], ap, arith, get_or, length, rules, sym}
use Rattle.std.specs.Prelude.{slice_range}
use Rattle.registry.specs.Publications.{PublicationList}
use Rattle.registry.proofs.PlaceLemmas.{part-read, within-read}
use Rattle.registry.proofs.PublicationLemmas.{length-publications_of}
use Rattle.registry.proofs.publications.Publications.part.Goals as goal

pub part_of-requires : goal.part_of-requires
part_of-requires c =
    let lt : c.args.index < length c.self.inside.spans.items = search rules in
    let within = within-read (length c.self.inside.places.items) c.self.inside.spans.items c.args.index c.index.result.now lt c.index.ensures c.self.invariant.4 in
    omega (arith, within, ap length c.deref.ensures.value)

pub returns-clause-kept : goal.returns-clause-kept
returns-clause-kept c =
    let lt : c.args.index < length c.self.inside.spans.items = search rules in
    c.part_of.ensures ∙ ap (λ l. slice_range l c.index.result.now.from c.index.result.now.to) c.deref.ensures.value
    ∙ sym (part-read c.self.inside.places.items c.self.inside.spans.items c.args.index c.index.result.now lt c.index.ensures)
    ∙ ap (λ (l : PublicationList). get_or l.places c.args.index []) c.self.view_is

pub returns-clause-past : goal.returns-clause-past
returns-clause-past c = λ past.
    let lt : c.args.index < length c.self.inside.spans.items = search rules in
    let count = length-publications_of c.self.inside.releases.releases c.self.inside.needs.items c.self.invariant.0 in
    let seen = ap (λ (l : PublicationList). length l.publications) c.self.view_is in
    absurd (omega (arith, past, lt, count, seen, c.self.invariant.0, c.self.invariant.3))
