use Rattle.answers.proofs.reasons.explained.Goals as goal

pub named-requires : goal.named-requires
named-requires c = record {
  names = c.derived_packages_have_names.ensures c.args.registry.now.packages c.args.request.now c.args.derivation.now c.conclusions_are_lawful.ensures c.requires;
}
