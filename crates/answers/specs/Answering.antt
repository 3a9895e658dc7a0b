-- What a line is read as, and what an answer leads to before it is told.
use Rattle.std.specs.Prelude.{ℕ, List, Result}
use Rattle.versions.specs.Refusals.{Gives}
use Rattle.versions.specs.declared.refusal.Refusal.{Refusal}
use Rattle.wire.specs.Asked.{asked_of}
use Rattle.wire.specs.Requests.{request_of}
use Rattle.wire.specs.declared.request.Asked.{Asked}
use Rattle.replies.specs.Replied.{body_of}
use Rattle.replies.specs.Replies.{Body, Reply}
use Rattle.answers.specs.Lawful.{LearnsSome, Ways, asked_within, reply_at}
use Rattle.answers.specs.Outcomes.{MayTell, TellsListing}
use Rattle.answers.specs.declared.answer.Answer.{Answer}
use Rattle.answers.specs.declared.answer.Answer.TheVariants as answer
use Rattle.answers.specs.declared.settings.Settings.{Settings}

-- It is read as what the line asks, or as its fault, unless memory ran out.
abbrev pub IsRead : Result Asked Refusal → List ℕ → Type 0
IsRead read line = Gives asked_of read (request_of line)

-- The same within these settings, whose budget is that of each request that names none, if there is one.
abbrev pub IsReadWithin : Settings → Result Asked Refusal → List ℕ → Type 0
IsReadWithin settings read line = Gives asked_of read (asked_within settings.budget line)

-- Each reply that tells this answer where the backend stands is such a reply, and leaves it so: of a search, once some of what it offers is learnt.
abbrev pub LeadsTo : {S : Type 0} → Ways S → (Reply → S → Type 0) → Answer → S → Type 0
LeadsTo {S} w is (answer.Told told) here = is (reply_at w here (body_of told)) here
LeadsTo {S} w is (answer.Found told offered) here = (new : S) → LearnsSome w here new → is (reply_at w here (body_of told)) new
LeadsTo {S} w is answer.Listing here = (body : Body) → MayTell (TellsListing (w.packages here)) body → is (reply_at w here body) here
