use Rattle.std.proofs.Common.{◌∙◌, ap, sym}
use Rattle.store.specs.Keys.{key_of}
use Rattle.store.specs.Stored.{terms_or_none}
use Rattle.store.proofs.member.member_key.Goals as goal

pub returns : goal.returns
returns c = c.key_of.ensures ∙ ap key_of (sym (ap terms_or_none c.conclusion.ensures))
