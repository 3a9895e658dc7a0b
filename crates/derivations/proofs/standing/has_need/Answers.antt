use Rattle.std.proofs.Common.{◌≡◌, ◌∙◌, ◌+◌, ◌<◌, inl, inr, ℕ, List, ap, arith, get_or, refl, sym, true≢false}
use Rattle.std.proofs.lemmas.Bool.{cases_lt, iff_false}
use Rattle.std.proofs.lemmas.Option.{get_or_from_slice_get, slice_get-get_or, slice_get_read}
use Rattle.std.specs.Prelude.{Contains, Some, slice_get}
use Rattle.versions.specs.Words.{Text}
use Rattle.registry.specs.Registry.{Packages, number_of}
use Rattle.derivations.proofs.standing.has_need.Goals as goal

-- none of the first needs is on the target with this requirement, and the next one is not
none_more : (packages : Packages) (needs : List (Text × Text)) (n target : ℕ) (need : Text) (entry : Text × Text) → entry ≡ get_or needs n entry
    → ((number_of packages entry.0 ≡ Some target) × (entry.1 ≡ need) → ⊥)
    → ((i : ℕ) (name : Text) → i < n → slice_get needs i ≡ Some (name, need) → number_of packages name ≡ Some target → ⊥)
    → (i : ℕ) (name : Text) → i < n + 1 → slice_get needs i ≡ Some (name, need) → number_of packages name ≡ Some target → ⊥
none_more packages needs n target need entry is apart before i name lt at number = elim (cases_lt i n) [
  | inl below ↦ before i name below at number
  | inr from ↦
      let same : i ≡ n = omega (arith, lt, from) in
      let own : entry ≡ (name, need) = is ∙ ap (λ k. get_or needs k entry) (sym same) ∙ get_or_from_slice_get needs i (name, need) entry at in
      apart (ap (λ (d : Text × Text). number_of packages d.0) own ∙ number, ap (λ (d : Text × Text). d.1) own)
]

pub loop-entry-preserved : goal.loop-entry-preserved
loop-entry-preserved c =
    none_more c.args.registry.now.packages c.args.needs.now c.loop-entry.entry-index c.args.target c.args.need.now c.entry-item.result c.entry-item.is
    (iff_false c.is_on_target.ensures c.if-is_on_target.false) c.loop-entry.invariant

pub returns-then-is_on_target : goal.returns-then-is_on_target
returns-then-is_on_target c =
    let own = c.is_on_target.ensures.0 c.if-is_on_target.true in
    let entry = c.entry-item.result in
    let at = slice_get_read c.args.needs.now _ c.loop-entry.entry-index entry refl c.loop-entry-test.true c.entry-item.is in (
      λ t. (
        entry.0,
        own.0,
        (
          c.loop-entry.entry-index,
          c.loop-entry-test.true,
          get_or_from_slice_get c.args.needs.now c.loop-entry.entry-index entry (entry.0, c.args.need.now) at ∙ ap (λ (need : Text). (entry.0, need)) own.1,
        ),
      ),
      λ h. refl,
    )

pub returns : goal.returns
returns c = (
  λ t. absurd (true≢false (sym t)),
  λ h.
      let among : Contains c.args.needs.now (h.0, c.args.need.now) = h.2 in
      absurd (c.loop-entry.invariant among.0 h.0 (omega (arith, among.1, c.loop-entry-test.false))
      (slice_get-get_or c.args.needs.now among.0 (h.0, c.args.need.now) among.1 ∙ ap (λ (d : Text × Text). Some d) among.2) h.1),
)
