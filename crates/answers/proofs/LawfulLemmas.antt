-- Lawful replies to one line, and to lines one after another.
use Rattle.std.proofs.Common.{◌≡◌, ◌⊎◌, Bool, ℕ, ◌++◌, List, [], ◌∷◌, refl, sym, ap, subst, ◌∙◌, inl, inr, Option, None, Some, Result, Ok, Err, MatchResult}
use Rattle.std.specs.Prelude.{IfErr, OnOk}
use Rattle.versions.specs.Refusals.{Refuses}
use Rattle.versions.specs.declared.refusal.Refusal.{Refusal}
use Rattle.versions.specs.declared.refusal.Refusal.TheVariants.{BadName, BadVersion, BadRequirement, RepeatedDependency, SelfDependency, TooManyDependencies, AlreadyPublished, TooManyVersions, TooManyPackages, JournalFull, NoSuchVersion, AlreadyYanked, NotYanked, Stale, Known, StoreFull, Stray, NoMemory, BadLine, TooLong, NotADerivation, BudgetSpent}
use Rattle.registry.specs.Commands.{change_of}
use Rattle.registry.specs.Registry.{Packages}
use Rattle.registry.specs.Requests.{Wanted}
use Rattle.registry.specs.declared.commands.Command.{Command}
use Rattle.registry.specs.declared.commands.Command.TheVariants as commands
use Rattle.derivations.specs.Learning.{IsLearnt}
use Rattle.derivations.specs.Lines.{Line}
use Rattle.book.specs.declared.item.Item.{Item}
use Rattle.book.specs.declared.item.Item.TheVariants as item
use Rattle.solver.specs.Outcomes.{MayStop}
use Rattle.replies.specs.Replies.{Body, Reply, accepted, refused}
use Rattle.wire.specs.Requests.{request_of}
use Rattle.wire.specs.Shapes.{Request, check, command, listing, resolve}
use Rattle.by_name.specs.NamedLines.{NamedLine}
use Rattle.answers.specs.Answering.{LeadsTo}
use Rattle.answers.specs.Lawful.{AreLawfulWithin, IsLawfulWithin, IsRefused, IsStopped, Learns, LearnsSome, LooksAndTells, MayAnswer, Ways, asked_within, bounded_if, item_of, reply_at}
use Rattle.answers.specs.Outcomes.{MayTell, TellsFound, TellsListing, TellsVerdict}
use Rattle.answers.specs.declared.answer.Answer.{Answer}
use Rattle.answers.specs.declared.answer.Answer.TheVariants as answer
use Rattle.answers.specs.declared.settings.Settings.{Settings}
use Rattle.answers.proofs.OutcomeLemmas.{stopped_told}

-- a refusal tells lack of memory, or what the definition says
pub told : {Y : Type 0} (e : Refusal) (said : Result Y Refusal) → Refuses e said → (e ≡ NoMemory) ⊎ (said ≡ Err e)
told BadName said is = inr is
told BadVersion said is = inr is
told BadRequirement said is = inr is
told RepeatedDependency said is = inr is
told SelfDependency said is = inr is
told TooManyDependencies said is = inr is
told AlreadyPublished said is = inr is
told TooManyVersions said is = inr is
told TooManyPackages said is = inr is
told JournalFull said is = inr is
told NoSuchVersion said is = inr is
told AlreadyYanked said is = inr is
told NotYanked said is = inr is
told Stale said is = inr is
told Known said is = inr is
told StoreFull said is = inr is
told Stray said is = inr is
told NoMemory said is = inl refl
told BadLine said is = inr is
told TooLong said is = inr is
told NotADerivation said is = inr is
told BudgetSpent said is = inr is

-- ---- a budget of each request that names none

-- a refusal of what a line asks is one of what it asks within a budget
pub refused_within : (budget : ℕ) (e : Refusal) (said : Result Request Refusal) → Refuses e said → Refuses e (bounded_if budget said)
refused_within budget NoMemory said is = tt
refused_within budget BadName said is = ap (bounded_if budget) is
refused_within budget BadVersion said is = ap (bounded_if budget) is
refused_within budget BadRequirement said is = ap (bounded_if budget) is
refused_within budget RepeatedDependency said is = ap (bounded_if budget) is
refused_within budget SelfDependency said is = ap (bounded_if budget) is
refused_within budget TooManyDependencies said is = ap (bounded_if budget) is
refused_within budget AlreadyPublished said is = ap (bounded_if budget) is
refused_within budget TooManyVersions said is = ap (bounded_if budget) is
refused_within budget TooManyPackages said is = ap (bounded_if budget) is
refused_within budget JournalFull said is = ap (bounded_if budget) is
refused_within budget NoSuchVersion said is = ap (bounded_if budget) is
refused_within budget AlreadyYanked said is = ap (bounded_if budget) is
refused_within budget NotYanked said is = ap (bounded_if budget) is
refused_within budget Stale said is = ap (bounded_if budget) is
refused_within budget Known said is = ap (bounded_if budget) is
refused_within budget StoreFull said is = ap (bounded_if budget) is
refused_within budget Stray said is = ap (bounded_if budget) is
refused_within budget BadLine said is = ap (bounded_if budget) is
refused_within budget TooLong said is = ap (bounded_if budget) is
refused_within budget NotADerivation said is = ap (bounded_if budget) is
refused_within budget BudgetSpent said is = ap (bounded_if budget) is

pub refused_within_if : (limit : Option ℕ) (e : Refusal) (line : List ℕ) → Refuses e (request_of line) → Refuses e (asked_within limit line)
refused_within_if None e line is = is
refused_within_if (Some budget) e line is = refused_within budget e (request_of line) is

-- the item of a command's change is the command
item_of-change : (c : Command) → item_of (change_of c) ≡ item.Command c
item_of-change (commands.Publish name version needs) = refl
item_of-change (commands.Yank name version) = refl
item_of-change (commands.Unyank name version) = refl

module _ {S : Type 0} (w : Ways S) where
  -- ---- one line

  -- what a line is answered where it asks this
  pub as_asked : (settings : Settings) (line : List ℕ) (old : S) (reply : Reply) (new : S) (said : Result Request Refusal) → asked_within settings.budget line ≡ said
      → MatchResult said (λ request. MayAnswer w request old reply new) (λ fault. IsRefused w fault old reply new) → IsLawfulWithin settings w line old reply new
  as_asked settings line old reply new said is h =
      inr (subst (λ (r : Result Request Refusal). MatchResult r (λ request. MayAnswer w request old reply new) (λ fault. IsRefused w fault old reply new)) (sym is) h)

  -- a line that is at fault
  pub lawful_bad : (settings : Settings) (line : List ℕ) (old : S) (e : Refusal) → Refuses e (asked_within settings.budget line)
      → IsLawfulWithin settings w line old (reply_at w old (refused e)) old
  lawful_bad settings line old e said = elim (told e (asked_within settings.budget line) said) [
    | inl memory ↦ inl (refl, ap (λ (r : Refusal). reply_at w old (refused r)) memory)
    | inr bad ↦ as_asked settings line old _ old _ bad (refl, refl)
  ]

  leads_weaker : (P Q : Reply → S → Type 0) (a : Answer) (here : S) → ((reply : Reply) (new : S) → P reply new → Q reply new) → LeadsTo w P a here → LeadsTo w Q a here
  leads_weaker P Q (answer.Told told) here f leads = f _ here leads
  leads_weaker P Q (answer.Found told offered) here f leads = λ new learns. f _ new (leads new learns)
  leads_weaker P Q answer.Listing here f leads = λ body may. f _ here (leads body may)

  -- a line that was answered as what it asks
  pub lawful_answered : (settings : Settings) (line : List ℕ) (old : S) (request : Request) (a : Answer) (here : S) → asked_within settings.budget line ≡ Ok request
      → LeadsTo w (λ reply new. MayAnswer w request old reply new) a here → LeadsTo w (λ reply new. IsLawfulWithin settings w line old reply new) a here
  lawful_answered settings line old request a here said leads =
      leads_weaker (λ reply new. MayAnswer w request old reply new) (λ reply new. IsLawfulWithin settings w line old reply new) a here
      (λ reply new answers. as_asked settings line old reply new _ said answers) leads

  -- ---- what answers a request

  -- a call that went no further
  pub stopped_reply : (request : Request) (old new : S) (e : Refusal) → w.looks old new → IsStopped w new e → MayAnswer w request old (reply_at w new (refused e)) new
  stopped_reply request old new e looks stopped = inl (looks, (e, stopped, refl))

  -- such a body, or lack of memory
  told_reply : (request : Request) (old new : S) (is : Packages → Body → Type 0) (body : Body)
      → (LooksAndTells w is old (reply_at w new body) new → MayAnswer w request old (reply_at w new body) new)
      → w.looks old new → MayTell (is (w.packages new)) body → MayAnswer w request old (reply_at w new body) new
  told_reply request old new is body answers looks (inl memory) = inl (looks, (NoMemory, inl refl, ap (λ (b : Body). reply_at w new b) memory))
  told_reply request old new is body answers looks (inr tells) = answers (looks, (body, tells, refl))

  -- a command that was entered
  pub entered_reply : (old new : S) (c : Command) → w.enters old (item.Command c) new → MayAnswer w (command (change_of c)) old (reply_at w new accepted) new
  entered_reply old new c enters = inr (inl (subst (λ (i : Item). w.enters old i new) (sym (item_of-change c)) enters, refl))

  -- a command that was refused
  pub refused_reply : (old new : S) (c : Command) (e : Refusal) → w.looks old new → IsStopped w new e ⊎ (w.refusal new (item.Command c) ≡ Some e)
      → MayAnswer w (command (change_of c)) old (reply_at w new (refused e)) new
  refused_reply old new c e looks (inl stopped) = stopped_reply (command (change_of c)) old new e looks stopped
  refused_reply old new c e looks (inr applies) = inr (inr (looks, (e, ap (λ (i : Item). w.refusal new i) (item_of-change c) ∙ applies, refl)))

  -- what the solver found is told, and then some is learnt
  pub found_reply : (wanted : Wanted) (explain : Bool) (budget : Option ℕ) (old mid : S) (body : Body) → w.looks old mid → TellsFound (w.packages mid) wanted explain body
      → (new : S) → LearnsSome w mid new → MayAnswer w (resolve wanted explain budget) old (reply_at w mid body) new
  found_reply wanted explain budget old mid body looks tells new learns = inr (inl (mid, (looks, (body, tells, refl)), learns))

  -- a request that is left without an answer
  pub unfound_reply : (wanted : Wanted) (explain : Bool) (budget : Option ℕ) (old new : S) (e : Refusal) → w.looks old new
      → IsStopped w new e ⊎ MayStop (w.packages new) wanted budget e → MayAnswer w (resolve wanted explain budget) old (reply_at w new (refused e)) new
  unfound_reply wanted explain budget old new e looks (inl stopped) = stopped_reply (resolve wanted explain budget) old new e looks stopped
  unfound_reply wanted explain budget old new e looks (inr may_stop) = elim (stopped_told (w.packages new) wanted budget e may_stop) [
    | inl memory ↦ stopped_reply (resolve wanted explain budget) old new e looks (inl memory)
    | inr spent ↦ inr (inr (looks, (refused e, spent, refl)))
  ]

  -- what may be told of a derivation
  pub judged_reply : (wanted : Wanted) (lines : List NamedLine) (old new : S) (packages : Packages) (body : Body) → w.looks old new → packages ≡ w.packages new
      → MayTell (TellsVerdict packages wanted lines) body → MayAnswer w (check wanted lines) old (reply_at w new body) new
  judged_reply wanted lines old new packages body looks is may =
      told_reply (check wanted lines) old new (λ p b. TellsVerdict p wanted lines b) body (λ answers. inr answers) looks
      (subst (λ (p : Packages). MayTell (TellsVerdict p wanted lines) body) is may)

  -- what may be told of what is published
  pub listed_reply : (old new : S) → w.looks old new → (body : Body) → MayTell (TellsListing (w.packages new)) body
      → MayAnswer w listing old (reply_at w new body) new
  listed_reply old new looks body may = told_reply listing old new TellsListing body (λ answers. inr answers) looks may

  -- ---- learning

  learns_more : (old mid new : S) (offered : List (List Line)) (lines : List Line) → Learns w old offered mid
      → w.looks mid new ⊎ (IsLearnt lines × w.enters mid (item.Learnt lines) new) → Learns w old (offered ++ lines ∷ []) new
  learns_more old mid new [] lines is one =
      (new, subst (λ (here : S). w.looks here new ⊎ (IsLearnt lines × w.enters here (item.Learnt lines) new)) is one, refl)
  learns_more old mid new (first ∷ rest) lines (here, step, others) one = (here, step, learns_more here mid new rest lines others one)

  -- what was offered is learnt, or dropped
  pub learns_step : (old mid new : S) (lines : List Line) (result : Result Unit Refusal) → LearnsSome w old mid → IsLearnt lines
      → OnOk result (w.enters mid (item.Learnt lines) new)
      → IfErr result (λ e. w.looks mid new × (IsStopped w new e ⊎ (w.refusal new (item.Learnt lines) ≡ Some e))) → LearnsSome w old new
  learns_step old mid new lines (Ok u) (offered, learns) follows enters none = (offered ++ lines ∷ [], learns_more old mid new offered lines learns (inr (follows, enters)))
  learns_step old mid new lines (Err e) (offered, learns) follows none refuses = (offered ++ lines ∷ [], learns_more old mid new offered lines learns (inl refuses.0))

  -- ---- lines one after another

  pub lawful_append : (settings : Settings) (lines more : List (List ℕ)) (replies after : List Reply) (old mid new : S) → AreLawfulWithin settings w lines old replies mid
      → AreLawfulWithin settings w more mid after new → AreLawfulWithin settings w (lines ++ more) old (replies ++ after) new
  lawful_append settings [] more [] after old mid new first then = subst (λ (here : S). AreLawfulWithin settings w more here after new) first then
  lawful_append settings [] more (reply ∷ replies) after old mid new first then = absurd first
  lawful_append settings (line ∷ lines) more [] after old mid new first then = absurd first
  lawful_append settings (line ∷ lines) more (reply ∷ replies) after old mid new (here, lawful, rest) then =
      (here, lawful, lawful_append settings lines more replies after here mid new rest then)
