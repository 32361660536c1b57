use Rattle.std.proofs.Common.{rules}
use Rattle.rv_pmp.proofs.Widest.{access_kept}
use Rattle.rv_pmp.proofs.pmp.Pmp.admits_user.Goals as goal

pub invariant_of-self : goal.invariant_of-self
invariant_of-self c = record {
  regions = c.self.invariant.regions;
  on = c.self.invariant.on;
  locked = c.self.invariant.locked;
  readable = c.self.invariant.readable;
  kept = c.keep.ensures.kept _ c.self.invariant.kept
      (access_kept c.args.self.now _ _ _ c.args.addr c.args.width (search rules) (search rules) (search rules)
      (search rules));
}
