-- Worked explanations, computed from the definitions.
use Rattle.std.specs.Fmt.{digits}
use Rattle.std.proofs.Common.{◌≡◌, ℕ, List, [], ◌∷◌, codes, refl, false, true}
use Rattle.versions.specs.OnLiterals.{semver_on_literals}
use Rattle.versions.specs.Words.{Text, meets}
use Rattle.terms.specs.declared.term.Term.TheVariants.{In, NotIn}
use Rattle.registry.specs.Registry.{Packages, matching, number_of, package_at, publication_at}
use Rattle.registry.specs.Requests.{Wanted}
use Rattle.derivations.specs.Lines.{Cause, Line}
use Rattle.derivations.specs.declared.facts.Cause.TheVariants as cause
use Rattle.explain.specs.Choices.{choice_text, set_text}
use Rattle.explain.specs.Explanations.{explanation, line_text, need_text, premise_text}

-- ---- foo 1 and baz 1 can't both be had

unfoldable chain : Packages
chain =
    (record { name = codes "foo"; versions = (record { version = codes "1.0.0"; needs = (codes "bar", codes "^2.0.0") ∷ []; yanked = false }) ∷ [] })
    ∷ (record { name = codes "bar"; versions = (record { version = codes "2.0.0"; needs = (codes "baz", codes "^3.0.0") ∷ []; yanked = false }) ∷ [] })
    ∷ (record { name = codes "baz"; versions = (record { version = codes "1.0.0"; needs = []; yanked = false }) ∷ (record { version = codes "3.0.0"; needs = []; yanked = false }) ∷ [] })
    ∷ []

abbrev foo_and_baz : Wanted
foo_and_baz = record { needs = (codes "foo", codes "^1.0.0") ∷ (codes "baz", codes "^1.0.0") ∷ []; lock = [] }

abbrev bar_needs_baz : Cause
bar_needs_baz = cause.Premise (record { «package» = 2; versions = 0 ∷ []; target = 3; need = codes "^3.0.0"; within = 1 ∷ [] })

abbrev foo_needs_bar : Cause
foo_needs_bar = cause.Premise (record { «package» = 1; versions = 0 ∷ []; target = 2; need = codes "^2.0.0"; within = 0 ∷ [] })

unfoldable chain_lines : List Line
chain_lines =
    (record { conclusion = (1, In (0 ∷ [])) ∷ (3, NotIn (1 ∷ [])) ∷ []; causes = (bar_needs_baz, foo_needs_bar); pivot = 2 })
    ∷ (record { conclusion = (0, In (0 ∷ [])) ∷ (1, In (0 ∷ [])) ∷ []; causes = (cause.Line 1, cause.Need 1); pivot = 3 })
    ∷ (record { conclusion = (0, In (0 ∷ [])) ∷ []; causes = (cause.Line 2, cause.Need 0); pivot = 1 })
    ∷ []

chain-told : explanation chain foo_and_baz chain_lines ≡
    codes "1. never (foo {1.0.0}, not baz {3.0.0}), because bar {2.0.0} needs baz \"^3.0.0\" in {3.0.0} and foo {1.0.0} needs bar \"^2.0.0\" in {2.0.0}"
    ∷ codes "2. never (the request, foo {1.0.0}), because line 1 and the request needs baz \"^1.0.0\" in {1.0.0}"
    ∷ codes "3. never (the request), because line 2 and the request needs foo \"^1.0.0\" in {1.0.0}"
    ∷ codes "So no selection meets the request."
    ∷ []
unfolding semver_on_literals chain chain_lines line_text premise_text need_text choice_text set_text matching number_of package_at publication_at meets digits
chain-told = refl

-- ---- foo and t 1 can't both be had; the first line is cited twice

unfoldable shared : Packages
shared =
    (record { name = codes "s"; versions = (record { version = codes "1.0.0"; needs = (codes "t", codes "^2.0.0") ∷ []; yanked = false }) ∷ [] })
    ∷ (record { name = codes "t"; versions = (record { version = codes "1.0.0"; needs = []; yanked = false }) ∷ (record { version = codes "2.0.0"; needs = []; yanked = false }) ∷ [] })
    ∷ (record { name = codes "foo"; versions = (record { version = codes "1.0.0"; needs = (codes "s", codes "^1.0.0") ∷ []; yanked = false }) ∷ (record { version = codes "1.1.0"; needs = (codes "s", codes ">=1.0.0") ∷ []; yanked = false }) ∷ [] })
    ∷ []

abbrev foo_and_t : Wanted
foo_and_t = record { needs = (codes "foo", codes "^1.0.0") ∷ (codes "t", codes "^1.0.0") ∷ []; lock = [] }

-- a version of a package needs another within its one version 0 or 1
abbrev needs_within : ℕ → ℕ → ℕ → Text → ℕ → Cause
needs_within p k target need within = cause.Premise (record { «package» = p; versions = k ∷ []; target = target; need = need; within = within ∷ [] })

unfoldable shared_lines : List Line
shared_lines =
    (record { conclusion = (0, In (0 ∷ [])) ∷ (1, In (0 ∷ [])) ∷ []; causes = (needs_within 1 0 2 (codes "^2.0.0") 1, cause.Need 1); pivot = 2 })
    ∷ (record { conclusion = (0, In (0 ∷ [])) ∷ (3, In (0 ∷ [])) ∷ []; causes = (cause.Line 1, needs_within 3 0 1 (codes "^1.0.0") 0); pivot = 1 })
    ∷ (record { conclusion = (0, In (0 ∷ [])) ∷ (3, In (1 ∷ [])) ∷ []; causes = (cause.Line 1, needs_within 3 1 1 (codes ">=1.0.0") 0); pivot = 1 })
    ∷ (record { conclusion = (0, In (0 ∷ [])) ∷ (3, NotIn (1 ∷ [])) ∷ []; causes = (cause.Line 2, cause.Need 0); pivot = 3 })
    ∷ (record { conclusion = (0, In (0 ∷ [])) ∷ []; causes = (cause.Line 3, cause.Line 4); pivot = 3 })
    ∷ []

shared-told : explanation shared foo_and_t shared_lines ≡
    codes "1. never (the request, s {1.0.0}), because s {1.0.0} needs t \"^2.0.0\" in {2.0.0} and the request needs t \"^1.0.0\" in {1.0.0}"
    ∷ codes "2. never (the request, foo {1.0.0}), because line 1 and foo {1.0.0} needs s \"^1.0.0\" in {1.0.0}"
    ∷ codes "3. never (the request, foo {1.1.0}), because line 1 and foo {1.1.0} needs s \">=1.0.0\" in {1.0.0}"
    ∷ codes "4. never (the request, not foo {1.1.0}), because line 2 and the request needs foo \"^1.0.0\" in {1.0.0, 1.1.0}"
    ∷ codes "5. never (the request), because line 3 and line 4"
    ∷ codes "So no selection meets the request."
    ∷ []
unfolding semver_on_literals shared shared_lines line_text premise_text need_text choice_text set_text matching number_of package_at publication_at meets digits
shared-told = refl

-- ---- a version that is yanked, and a package that nobody named

abbrev a_yanked : Packages
a_yanked = (record { name = codes "a"; versions = (record { version = codes "1.0.0"; needs = []; yanked = true }) ∷ [] }) ∷ []

barred-told : explanation a_yanked (record { needs = (codes "a", codes "^1") ∷ []; lock = [] })
    ((record { conclusion = (0, In (0 ∷ [])) ∷ []; causes = (cause.NotAllowed 1 (0 ∷ []), cause.Need 0); pivot = 1 }) ∷ []) ≡
    codes "1. never (the request), because a {1.0.0} is not allowed and the request needs a \"^1\" in {1.0.0}"
    ∷ codes "So no selection meets the request."
    ∷ []
unfolding semver_on_literals line_text need_text choice_text set_text matching number_of package_at publication_at meets digits
barred-told = refl

unknown-told : explanation [] (record { needs = (codes "zed", codes "*") ∷ []; lock = [] })
    ((record { conclusion = []; causes = (cause.Need 0, cause.Root); pivot = 0 }) ∷ []) ≡
    codes "1. never (), because the request needs zed \"*\" in {} and the request must be met"
    ∷ codes "So no selection meets the request."
    ∷ []
unfolding line_text need_text number_of digits
unknown-told = refl

-- an ordinal that is not published, and the empty set
marked-told : set_text chain 3 (1 ∷ 7 ∷ []) ≡ codes "{3.0.0, #7}"
unfolding chain set_text package_at publication_at digits
marked-told = refl

empty-told : choice_text chain 0 [] ≡ codes "the request {}"
unfolding choice_text set_text
empty-told = refl
