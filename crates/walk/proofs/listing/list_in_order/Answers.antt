use Rattle.walk.proofs.listing.list_in_order.Goals as goal

pub go_on-requires : goal.go_on-requires
go_on-requires g c = c.new-order.ensures c.args.registry.now.packages c.args.request.now.needs
