use Rattle.std.proofs.Common.{◌≡◌, ◌∙◌, ◌==◌, ℕ, List, [], arith, length, true}
use Rattle.std.proofs.lemmas.List.{nil_from_length}
use Rattle.semver.specs.Identifiers.{pre_text}
use Rattle.versions.proofs.bounds.Bounds.admit.Goals as goal

-- a text of no letters
empty : (text : List ℕ) → true ≡ (length text == 0) → text ≡ []
empty text e = let none : length text ≡ 0 = grind arith in nil_from_length text none

pub returns-then-is_empty : goal.returns-then-is_empty
returns-then-is_empty c =
    let bounds = rw (← c.self.view_is) at c.requires in
    c.has.ensures
    ∙ bounds.range c.if-self.false c.args.version.now c.parsed-parsed.result.now c.parsed-parsed.ensures
    (empty (pre_text c.parsed-parsed.result.now.pre) c.if-is_empty.ensures)
