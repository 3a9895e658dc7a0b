use Rattle.replies.proofs.PlainLemmas.{escape-plain, name-plain, version-plain}
use Rattle.replies.proofs.RequirementLemmas.{requirement-plain}
use Rattle.replies.proofs.laws.texts_need_no_escapes.Goals as goal

pub returns : goal.returns
returns c = record {
  names = λ text is. escape-plain text (name-plain text is);
  versions = λ text is. escape-plain text (version-plain text is);
  requirements = λ text is. escape-plain text (requirement-plain text is);
}
