use Rattle.maps.proofs.homomorphism.Goals as goal

pub returns : goal.returns
returns g c = g.met.M.Map.keeps c.args.m.now
