use Rattle.std.proofs.Common.{ℕ, ◌<◌, List, Bor, []}
use Rattle.std.proofs.lemmas.List.{get_or-map}
use Rattle.asm.proofs.names.register_name.Goals as goal

pub returns : goal.returns
returns c = let low : c.args.reg.number < 32 = c.args.reg.low in rw (← get_or-map (λ (r : Bor (List ℕ)). r.now) _ _ _ [])
