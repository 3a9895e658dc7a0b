use Rattle.std.proofs.Common.{◌≡◌, ◌∙◌, ◌++◌, ap, append-nil, arith, drop, length, List, ℕ, map, subst, sym, take}
use Rattle.std.proofs.lemmas.List.{drop_all, take_all}
use Rattle.std.proofs.lemmas.List.Sorted.{All-permutation, IsPermutation-map}
use Rattle.std.specs.List.Sorted.{IsPermutation, IsSorted}
use Rattle.std.specs.Prelude.{All}
use Rattle.walk.specs.Names.{by_name, IsFronted}
use Rattle.walk.proofs.Fronts.{once_moved, same_moved, sorted_names}
use Rattle.walk.proofs.names.sort_by_name.Goals as goal

-- a list of the same length is put in the place of another
put : (len : ℕ) (new old : List (ℕ × (ℕ × ℕ))) → len ≡ length old → length new ≡ length old → take len (new ++ drop (length new) old) ≡ new
put len new old whole same = ap (λ (l : List (ℕ × (ℕ × ℕ))). take len (new ++ l)) (drop_all (length new) old (omega arith)) ∙ ap (take len) (append-nil new) ∙ take_all len new (omega arith)

-- what stands behind the fronts is moved as these are
moved_behind : (list new : List (ℕ × ℕ)) (fronted sorted : List (ℕ × (ℕ × ℕ))) → map (λ (f : ℕ × (ℕ × ℕ)). f.1) fronted ≡ list → IsPermutation fronted sorted → new ≡ map (λ (f : ℕ × (ℕ × ℕ)). f.1) sorted → IsPermutation list new
moved_behind list new fronted sorted behind moved taken =
    let back : ℕ × (ℕ × ℕ) → ℕ × ℕ = λ f. f.1 in
    subst (IsPermutation list) (sym taken) (subst (λ (l : List (ℕ × ℕ)). IsPermutation l (map back sorted)) behind (IsPermutation-map back fronted sorted moved))

pub returns-in-Ok : goal.returns-in-Ok
returns-in-Ok c =
    let back : ℕ × (ℕ × ℕ) → ℕ × ℕ = λ f. f.1 in
    let packages = c.args.registry.now.packages in
    let list = c.args.list.now in
    let new = c.take_order.new.list in
    let fronted = c.in-Ok.fronted.items in
    let sorted = c.sort_fronted.new.fronted in
    let taken : new ≡ map back sorted = c.take_order.ensures ∙ ap (map back) (c.deref.ensures.value ∙ put c.in-Ok.fronted.len sorted fronted (omega (arith, c.in-Ok.fronted.ok.0)) (omega (arith, c.sort_fronted.auto.fronted, c.deref_mut.ensures.len, ap length c.deref_mut.ensures.value))) in
    let moved : IsPermutation fronted sorted = subst (λ (l : List (ℕ × (ℕ × ℕ))). IsPermutation l sorted) c.deref_mut.ensures.value c.sort_fronted.ensures.moved in
    let right : All (IsFronted packages) fronted = c.in-Ok.ensures.fronted in
    let moves = moved_behind list new fronted sorted c.in-Ok.ensures.same moved taken in
    record {
      sorted = subst (IsSorted (by_name packages)) (sym taken) (sorted_names packages sorted (All-permutation (IsFronted packages) fronted sorted moved right) c.sort_fronted.ensures.sorted);
      same = same_moved list new moves c.requires;
      once = once_moved list new moves c.requires;
    }
