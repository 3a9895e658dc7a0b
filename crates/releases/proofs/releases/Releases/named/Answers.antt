use Rattle.std.proofs.Common.{◌≡◌, ◌∙◌, ℕ, List, ap, subst, sym}
use Rattle.std.specs.Borrow.{Bor}
use Rattle.std.specs.Prelude.{Option, None, Some, IfSome, slice_get}
use Rattle.std.specs.List.{find}
use Rattle.std.specs.Option.{option_map}
use Rattle.std.specs.Str.{bytes_eq}
use Rattle.std.proofs.lemmas.Map.Made.{IfSome-find_same}
use Rattle.std.proofs.lemmas.Slice.Eq.{bytes_eq-Decides}
use Rattle.versions.specs.Words.{Text}
use Rattle.releases.proofs.releases.Releases.named.Goals as goal

-- the requirement that a look-up finds is the one that is looked up
same : (needs : List Text) (need : Text) (found : Option (ℕ × Bor Text)) → option_map (λ (p : ℕ × Bor Text). p.1.now) found ≡ find (bytes_eq need) needs
    → IfSome found (λ (p : ℕ × Bor Text). p.1.now ≡ need)
same needs need found at =
    let P : Text → Type 0 = λ kept. kept ≡ need in
    behind P found (subst (λ o. IfSome o P) (sym at) (IfSome-find_same {eq = bytes_eq} bytes_eq-Decides need needs))
  where
    behind : (P : Text → Type 0) (found : Option (ℕ × Bor Text)) → IfSome (option_map (λ (p : ℕ × Bor Text). p.1.now) found) P → IfSome found (λ (p : ℕ × Bor Text). P p.1.now)
    behind P None h = h
    behind P (Some kept) h = h

placed : (needs : List Text) (need : Text) (found : Option (ℕ × Bor Text)) → IfSome found (λ (p : ℕ × Bor Text). slice_get needs p.0 ≡ Some p.1.now)
    → IfSome found (λ (p : ℕ × Bor Text). p.1.now ≡ need) → IfSome found (λ (p : ℕ × Bor Text). slice_get needs p.0 ≡ Some need)
placed needs need None stored is = is
placed needs need (Some kept) stored is = stored ∙ ap (λ (t : Text). Some t) is

pub returns-clause-same : goal.returns-clause-same
returns-clause-same c = same c.self.inside.needs.keys c.args.need.now c.get_full.result c.get_full.ensures.key

pub returns-clause-place : goal.returns-clause-place
returns-clause-place c =
    rw (← c.self.view_is) (placed c.self.inside.needs.keys c.args.need.now c.get_full.result c.get_full.ensures.stored (same c.self.inside.needs.keys c.args.need.now c.get_full.result c.get_full.ensures.key))
