use Rattle.std.proofs.Common.{◌≡◌, ◌∙◌, List, ap, sym}
use Rattle.versions.specs.Words.{Text}
use Rattle.walk.specs.Answer.{Selected}
use Rattle.replies.specs.Replies.{selected}
use Rattle.answers.proofs.laws.one_selection_is_told.Goals as goal

pub returns : goal.returns
returns c = λ packages wanted one other registry first second.
    let answers : Selected first.0 ≡ Selected second.0 = c.one_answer.ensures packages wanted (Selected first.0) (Selected second.0) registry first.1 second.1 in
    let same : first.0 ≡ second.0 = cc in
    first.2 ∙ ap (λ (list : List (Text × Text)). selected list) same ∙ sym second.2
