use Rattle.std.proofs.Common.{◌∙◌, ap, sym}
use Rattle.std.specs.Option.{option_copied}
use Rattle.explain.proofs.ListedTexts.{named, unnamed}
use Rattle.explain.proofs.choices.name_of.Goals as goal

pub returns-in-Some : goal.returns-in-Some
returns-in-Some c =
    c.text.ensures.text ∙ sym (named c.args.registry.now.packages c.args.pkg c.in-Some.name.now c.if-pkg-eq-ROOT.false (sym (ap option_copied c.in-Some.is) ∙ c.name_at.ensures.name))

pub returns-in-None : goal.returns-in-None
returns-in-None c = sym (unnamed c.args.registry.now.packages c.args.pkg c.if-pkg-eq-ROOT.false (sym (ap option_copied c.in-None.is) ∙ c.name_at.ensures.name))
