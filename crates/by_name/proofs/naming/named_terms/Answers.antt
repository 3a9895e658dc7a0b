use Rattle.std.proofs.Common.{◌≡◌, ◌∙◌, ◌+◌, List, [], ◌∷◌, ◌++◌, take, Option, Some, arith, refl, sym, ap}
use Rattle.std.proofs.lemmas.List.{take_all}
use Rattle.std.proofs.lemmas.Option.{slice_get_read}
use Rattle.versions.specs.Words.{Text}
use Rattle.terms.specs.declared.term.Term.{Term}
use Rattle.derivations.specs.Facts.{Terms}
use Rattle.by_name.specs.Named.{numbered_terms}
use Rattle.by_name.proofs.NumberLemmas.{term_has_name, take_one, terms_more}
use Rattle.by_name.proofs.naming.named_terms.Goals as goal

pub name_of-requires : goal.name_of-requires
name_of-requires c =
    let here = slice_get_read c.args.terms.now _ c.loop-entry.entry-index _ refl c.loop-entry-test.true c.entry-item.is in
    term_has_name c.args.registry.now.packages c.args.terms.now c.loop-entry.entry-index c.entry-item.result here c.requires

pub loop-entry-preserved : goal.loop-entry-preserved
loop-entry-preserved c = record {
  told =
      let packages = c.args.registry.now.packages in
      let here = slice_get_read c.args.terms.now _ c.loop-entry.entry-index _ refl c.loop-entry-test.true c.entry-item.is in
      let before = take c.loop-entry.entry-index c.args.terms.now in
      ap (λ (terms : List (Option Text × Term)). numbered_terms packages terms) c.push_reserved.ensures.items
      ∙ terms_more packages c.loop-entry.named.items before (c.in-Ok.name, c.in-Ok-copy.term) c.entry-item.result.0 c.loop-entry.invariant.told c.in-Ok.ensures
      ∙ ap (λ (t : Term). Some (before ++ (c.entry-item.result.0, t) ∷ [])) c.in-Ok-copy.ensures.same
      ∙ ap (λ (terms : Terms). Some terms) (sym (take_one c.args.terms.now c.loop-entry.entry-index c.entry-item.result here));
  count = c.push_reserved.ensures.len ∙ ap (λ n. n + 1) c.loop-entry.invariant.count;
  room = rw c.push_reserved.ensures.capacity c.loop-entry.invariant.room;
}

pub returns : goal.returns
returns c =
    let all : take c.loop-entry.entry-index c.args.terms.now ≡ c.args.terms.now = take_all _ _ (omega arith) in
    rw (c.new.ensures, c.loop-entry.invariant.told, all) refl
