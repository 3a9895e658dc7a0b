use Rattle.std.proofs.Common.{◌≡◌, ◌<◌, ℕ, false, length, rules, sym, true, true≢false}
use Rattle.std.proofs.lemmas.Option.{IfSome_then}
use Rattle.std.specs.Option.{option_copied}
use Rattle.registry.specs.Registry.{package_at, publication_at, versions_or_none}
use Rattle.walk.specs.Preferring.{Fails, is_open_at}
use Rattle.walk.proofs.Preferring.{IfNone_then, all_open, copied_none}
use Rattle.walk.proofs.preferred.highest_open.Goals as goal
use Rattle.walk.proofs.preferred.highest_open.Goals.{After-highest_where}

-- each version is open
each_open : (c : After-highest_where) (k : ℕ) → k < length (versions_or_none (package_at c.args.registry.now.packages c.args.pkg))
    → is_open_at (option_copied c.args.need) (option_copied c.args.locked) (publication_at c.args.registry.now.packages c.args.pkg k) ≡ true
each_open c k lt =
    rw (copied_none c.args.need (c.if-is_none.ensures)) (rw (copied_none c.args.locked (c.if-is_none-2.ensures))
    (all_open c.args.registry.now.packages c.args.pkg k (sym (c.if-not-has_yanks.ensures)) lt))

pub returns-then-not-has_yanks-clause-some : goal.returns-then-not-has_yanks-clause-some
returns-then-not-has_yanks-clause-some c =
    IfSome_then c.highest_where.result c.highest_where.ensures.some
    (λ k h. record {
      published = h.published;
      passes = each_open c k h.published;
      fails = λ j version other at next less. let got = h.fails j version other at next less in let no : true ≡ false = search rules in absurd (true≢false no);
    })

pub returns-then-not-has_yanks-clause-none : goal.returns-then-not-has_yanks-clause-none
returns-then-not-has_yanks-clause-none c =
    let fails = Fails c.args.registry.now.packages c.args.pkg (is_open_at (option_copied c.args.need) (option_copied c.args.locked)) in
    IfNone_then {Q = fails} c.highest_where.result c.highest_where.ensures.none (λ h k lt. let got = h k lt in let no : true ≡ false = search rules in absurd (true≢false no))

pub returns-clause-none : goal.returns-clause-none
returns-clause-none c =
    let fails = Fails c.args.registry.now.packages c.args.pkg (is_open_at (option_copied c.args.need) (option_copied c.args.locked)) in
    IfNone_then {Q = fails} c.highest_where-2.result c.highest_where-2.ensures.none (λ h k lt. let one = h k lt in search rules)
