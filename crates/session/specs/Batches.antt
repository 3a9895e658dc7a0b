-- Requests of neighbouring lines, which are answered together.
use Rattle.std.specs.Prelude.{◌≡◌, ℕ, List, [], ◌∷◌, ◌++◌, OnOk, Option, Result, MatchResult, Ok}
use Rattle.std.specs.List.{AllZip}
use Rattle.registry.specs.Requests.{Wanted}
use Rattle.derivations.specs.Lines.{Line}
use Rattle.wire.specs.Shapes.{Request, resolve}
use Rattle.replies.specs.Putting.{IsCut, IsPut}
use Rattle.replies.specs.Replies.{Reply, replies_text}
use Rattle.book.specs.Items.{packages_of, revision_of}
use Rattle.book.specs.declared.item.Item.{Item}
use Rattle.answers.specs.Lawful.{LearnsSome, MayAnswer, Ways, asked_within}
use Rattle.answers.specs.declared.settings.Settings.{Settings}
use Rattle.session.specs.Session.{session_ways}
use Rattle.oracle.specs.declared.options.Options.{Options}

-- a request, and how it is to be answered
abbrev pub Question : Type 0
Question = Wanted × Options

-- what a line asks that has such a request
abbrev pub request_in : Question → Request
request_in one = resolve one.0 one.1.explain one.1.budget

-- the line asks for this within these settings
abbrev pub IsAskedBy : Settings → List ℕ → Question → Type 0
IsAskedBy settings line one = asked_within settings.budget line ≡ Ok (request_in one)

-- each of these lines asks for what stands at its place, within these settings
abbrev pub AreAsked : Settings → List (List ℕ) → List Question → Type 0
AreAsked settings = AllZip (IsAskedBy settings)

-- The requests may be answered so, one reply a request, each after what those before it left.
abbrev pub AreReplied : {S : Type 0} → Ways S → List Question → S → List Reply → S → Type 0
AreReplied {S} w [] old [] new = new ≡ old
AreReplied {S} w (request ∷ requests) old (reply ∷ replies) new = (mid : S) × MayAnswer w (request_in request) old reply mid × AreReplied w requests mid replies new
AreReplied {S} w [] old (reply ∷ replies) new = ⊥
AreReplied {S} w (request ∷ requests) old [] new = ⊥

-- ---- replies before what is learnt of them

-- Some of what is offered may be learnt; where nothing is offered, nothing is.
abbrev pub LearnsOf : List (List Line) → List Item → List Item → Type 0
LearnsOf [] old new = new ≡ old
LearnsOf (lines ∷ offered) old new = LearnsSome session_ways old new

-- The requests may be told so where the session has these packages and this revision, whatever is learnt then of what the answers offer.
abbrev pub MayBeTold : List Question → List Item → List Reply → List (List Line) → Type 0
MayBeTold requests items replies offered = (here new : List Item) → packages_of here ≡ packages_of items → revision_of here ≡ revision_of items
    → LearnsOf offered here new
    → AreReplied session_ways requests here replies new

-- The first of these requests were told replies, whose texts were put, and what the answers offer stands behind what was offered before. The others are left.
pub record Tells {A E : Type 0} (written_before written_after : Option (List ℕ)) (before after : List ℕ) (r : Result A E) (requests left : List Question)
    (items : List Item)
    (offered_before offered_after : List (List Line)) : Type 0 where
  pub first : List Question
  pub others : List Question
  pub replies : List Reply
  pub more : List (List Line)
  pub split : requests ≡ first ++ others
  pub rest : OnOk r (left ≡ others)
  pub offered : offered_after ≡ offered_before ++ more
  pub told : MayBeTold first items replies more
  pub puts : MatchResult r (λ _. IsPut written_before written_after before after (replies_text replies)) (λ _. IsCut written_before written_after before (replies_text replies))
