-- When the rank of a partial solution falls.
use Rattle.std.proofs.Common.{◌≡◌, ◌<◌, ◌≤◌, ◌+◌, ◌^◌, ◌∙◌, ℕ, sym, subst, arith, true, false, List, [], ◌∷◌, ◌++◌}
use Rattle.std.specs.Prelude.{Option, None, Some}
use Rattle.terms.specs.Terms.{IsChoice}
use Rattle.search.specs.declared.assignment.Assignment.{Assignment}
use Rattle.search.specs.Assignments.{is_decision, is_decided, decisions, upto, IsPartial}
use Rattle.search.specs.Rank.{rank, TakesAway}
use Rattle.search.proofs.Counting.{IsCounted}
use Rattle.search.proofs.Saying.{decisions-upto, upto-all}
use Rattle.search.proofs.Decided.{decisions-bound, decisions-room}
use Rattle.search.proofs.Rank.{rank_within-falls_back, rank_within-falls_deeper}

counted : (c : Option ℕ) → IsChoice c → IsCounted (2 ^ 32) c
counted None h = tt
counted (Some k) h = h

-- going back to an open level and deriving there what takes a choice away
pub rank-falls_back : (before : List Assignment) (level : ℕ) (x : Assignment) → IsPartial before → level ≤ decisions before → x.level ≡ decisions (upto level before) → is_decision x ≡ false → x.pkg < 2 ^ 32
    → TakesAway (upto level before) x.pkg x.term → rank (upto level before ++ x ∷ []) < rank before
unfolding rank
rank-falls_back before level x h le is_level derived small w =
    let there : decisions (upto level before) ≡ level = omega (arith, decisions-upto level 0 before h.levels (omega arith) (omega arith)) in
    rank_within-falls_back (2 ^ 32) (2 ^ 32) level before x w.0 h.levels le (decisions-bound before h) (is_level ∙ there) derived small (counted w.0 w.1) w.2 w.3

-- the same of assignments that are those of a level or lower
pub rank-falls_from : (made before : List Assignment) (level : ℕ) (x : Assignment) → IsPartial before → level ≤ decisions before → made ≡ upto level before → x.level ≡ decisions made → is_decision x ≡ false → x.pkg < 2 ^ 32
    → TakesAway made x.pkg x.term → rank (made ++ x ∷ []) < rank before
rank-falls_from made before level x h le is is_level derived small w =
    let P : List Assignment → Type 0 = λ xs. x.level ≡ decisions xs → TakesAway xs x.pkg x.term → rank (xs ++ x ∷ []) < rank before in
    subst P (sym is) (λ l v. rank-falls_back before level x h le l derived small v) is_level w

-- deriving what takes a choice away
pub rank-falls : (made : List Assignment) (x : Assignment) → IsPartial made → x.level ≡ decisions made → is_decision x ≡ false → x.pkg < 2 ^ 32 → TakesAway made x.pkg x.term → rank (made ++ x ∷ []) < rank made
rank-falls made x h level derived small w =
    rank-falls_from made made (decisions made) x h (omega arith) (sym (upto-all (decisions made) 0 made h.levels (omega arith))) level derived small w

-- deciding
pub rank-falls_deeper : (made : List Assignment) (x : Assignment) → IsPartial made → x.pkg < 2 ^ 32 → is_decided made x.pkg ≡ false → x.level ≡ decisions made + 1 → is_decision x ≡ true → rank (made ++ x ∷ []) < rank made
unfolding rank
rank-falls_deeper made x h small off level decides = rank_within-falls_deeper (2 ^ 32) (2 ^ 32) made x h.levels (decisions-room made x.pkg h small off) level decides
