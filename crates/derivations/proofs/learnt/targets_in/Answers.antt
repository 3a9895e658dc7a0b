use Rattle.std.proofs.Common.{◌≡◌, ◌∙◌, ◌-◌, ◌++◌, ℕ, List, ◌∷◌, ap, append_assoc, arith, drop, length, sym, take}
use Rattle.std.proofs.lemmas.List.{append-nil}
use Rattle.terms.specs.Sets.{has}
use Rattle.derivations.specs.Learning.{target_of, targets_of}
use Rattle.derivations.specs.Lines.{Line}
use Rattle.derivations.proofs.Behind.{behind_first, none_behind}
use Rattle.derivations.proofs.learnt.targets_in.Goals as goal

-- with the targets of one more line
one_gathered : (old mid new all : List ℕ) (line : Line) (left rest : List Line) → mid ≡ old ++ target_of line.causes.0 → new ≡ mid ++ target_of line.causes.1 → left ≡ line ∷ rest
    → old ++ targets_of left ≡ all → new ++ targets_of rest ≡ all
one_gathered old mid new all line left rest one two split is =
    let regrouped : ((old ++ target_of line.causes.0) ++ target_of line.causes.1) ++ targets_of rest ≡ old ++ targets_of (line ∷ rest) = simp append_assoc in
    ap (λ targets. targets ++ targets_of rest) (two ∙ ap (λ targets. targets ++ target_of line.causes.1) one) ∙ regrouped
    ∙ ap (λ (lines : List Line). old ++ targets_of lines) (sym split) ∙ is

pub gather-init : goal.gather-init
gather-init c = ap (λ (targets : List ℕ). targets ++ targets_of c.args.lines.now) c.new-targets.ensures.items

pub gather-preserved : goal.gather-preserved
gather-preserved c =
    let left = c.gather.left.now in
    one_gathered c.gather.targets.items c.push_target.new.targets.items c.push_target-in-len1-up.new.targets.items _ c.line-item.result left (take (length left - 1) (drop 1 left))
    c.in_ok-push_target.ensures c.in_ok-push_target-2.ensures (behind_first left c.line-item.result c.in-len1-up.len_at_least c.line-item.is) c.gather.invariant

pub gather-smaller : goal.gather-smaller
gather-smaller c = let split = behind_first c.gather.left.now c.line-item.result c.in-len1-up.len_at_least c.line-item.is in omega (arith, ap length split)

pub returns : goal.returns
returns c =
    let targets = c.gather.targets.items in
    let all : targets ≡ targets_of c.args.lines.now =
    sym (append-nil targets) ∙ ap (λ (lines : List Line). targets ++ targets_of lines) (sym (none_behind c.gather.left.now c.in_default.len_below)) ∙ c.gather.invariant in
    λ k. c.in_ok-of.ensures.members k ∙ ap (λ set. has set k) (c.deref.ensures.value ∙ all)
