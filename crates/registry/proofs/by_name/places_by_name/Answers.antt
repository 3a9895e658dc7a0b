use Rattle.std.proofs.Common.{◌≡◌, of_calls, rules, subst, ℕ, List, length}
use Rattle.std.specs.Prelude.{IsPermutation}
use Rattle.std.specs.Cmp.Lexicographic.{nat_list_cmp_total}
use Rattle.std.specs.List.{range_with_len}
use Rattle.std.specs.Map.{keys_of}
use Rattle.std.specs.Ordering.{is_lt}
use Rattle.std.proofs.lemmas.Fn.{always_returns_same}
use Rattle.std.proofs.lemmas.List.Sorted.{ranks_by}
use Rattle.std.proofs.lemmas.Map.Entries.{length-keys_of}
use Rattle.registry.specs.ByName.{by_name, name_at}
use Rattle.registry.proofs.by_name.places_by_name.Goals as goal

pub returns : goal.returns
returns g c =
    let names = keys_of c.args.lines.now in
    let places : c.in_ok-places.places.items ≡ range_with_len 0 (length names) = search (rules, length-keys_of c.args.lines.now) in
    let ranks = ranks_by nat_list_cmp_total (name_at names) in
    record {
      moved = subst (λ (l : List ℕ). IsPermutation l c.sort_unstable_by.new.self.items) places c.sort_unstable_by.ensures.permutation;
      sorted = c.sort_unstable_by.ensures.sorted (λ a b. is_lt (by_name names a b)) ranks (always_returns_same _ _ _ (λ a r f' k. search (rules, of_calls)));
    }
