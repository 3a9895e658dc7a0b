use Rattle.std.proofs.Common.{◌≡◌, ◌∙◌, ◌+◌, List, [], ◌∷◌, ◌++◌, take, Option, None, Some, arith, refl, sym, ap}
use Rattle.std.proofs.lemmas.List.{take_all}
use Rattle.std.proofs.lemmas.Option.{slice_get_read}
use Rattle.versions.specs.Words.{Text}
use Rattle.terms.specs.declared.term.Term.{Term}
use Rattle.derivations.specs.Facts.{Terms}
use Rattle.by_name.specs.Named.{number_in, numbered_terms}
use Rattle.by_name.proofs.NumberLemmas.{take_one, terms_more, terms_none}
use Rattle.by_name.proofs.numbering.numbered_terms.Goals as goal

pub returns-in_default : goal.returns-in_default
returns-in_default c =
    let here = slice_get_read c.args.terms.now _ c.loop-entry.entry-index _ refl c.loop-entry-test.true c.entry-item.is in
    let none : number_in c.args.registry.now.packages c.entry-item.result.0 ≡ None = cc in
    sym (terms_none c.args.registry.now.packages c.args.terms.now c.loop-entry.entry-index c.entry-item.result here none)

pub loop-entry-preserved : goal.loop-entry-preserved
loop-entry-preserved c = record {
  told =
      let packages = c.args.registry.now.packages in
      let here = slice_get_read c.args.terms.now _ c.loop-entry.entry-index _ refl c.loop-entry-test.true c.entry-item.is in
      let number : number_in packages c.entry-item.result.0 ≡ Some c.in-Some.pkg = cc in
      ap (λ (terms : List (Option Text × Term)). numbered_terms packages terms) (take_one c.args.terms.now c.loop-entry.entry-index c.entry-item.result here)
      ∙ terms_more packages (take c.loop-entry.entry-index c.args.terms.now) c.loop-entry.numbered.items c.entry-item.result c.in-Some.pkg c.loop-entry.invariant.told number
      ∙ ap (λ (t : Term). Some (c.loop-entry.numbered.items ++ (c.in-Some.pkg, t) ∷ [])) (sym {A = Term} c.in-Ok.ensures.same)
      ∙ ap (λ (terms : Terms). Some terms) (sym c.push_reserved.ensures.items);
  count = c.push_reserved.ensures.len ∙ ap (λ n. n + 1) c.loop-entry.invariant.count;
  room = rw c.push_reserved.ensures.capacity c.loop-entry.invariant.room;
}

pub returns : goal.returns
returns c =
    let all : take c.loop-entry.entry-index c.args.terms.now ≡ c.args.terms.now = take_all _ _ (omega arith) in
    sym (rw all at c.loop-entry.invariant.told)
