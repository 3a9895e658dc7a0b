use Rattle.replies.proofs.PlainLemmas.{name-plain, utf8-plain, version-plain}
use Rattle.replies.proofs.RequirementLemmas.{requirement-plain}
use Rattle.replies.proofs.laws.texts_are_utf8.Goals as goal

pub returns : goal.returns
returns c = record {
  names = λ text is. utf8-plain text (name-plain text is);
  versions = λ text is. utf8-plain text (version-plain text is);
  requirements = λ text is. utf8-plain text (requirement-plain text is);
}
