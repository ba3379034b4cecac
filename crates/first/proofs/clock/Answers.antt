use Rattle.std.proofs.Common.{◌≡◌, Some, sym, refl, ap, ◌∙◌, arith, rules}
use Rattle.pins.specs.Ports.{in_of, out_of, sound_out}
use Rattle.pins.specs.PortWords.{inputs_of, shown}
use Rattle.pins.proofs.AtPorts.{out_back, sound_back}
use Rattle.pins.proofs.Calls.{call_laws}
use Rattle.first.specs.declared.state.Core.{Core}
use Rattle.first.specs.Layout.{decode}
use Rattle.first.specs.Step.{next, outputs}
use Rattle.first.specs.Stands.{machine}
use Rattle.first.proofs.RoundTrip.{long, written}
use Rattle.first.proofs.AlwaysRight.{parts}
use Rattle.first.proofs.Posts.{clocked}
use Rattle.first.proofs.clock.Goals as goal

pub save-requires : goal.save-requires
save-requires c = omega (arith, long c.args.core.now c.in-Some-load.state (sym c.in-Some-load.ensures))

pub returns-in_default : goal.returns-in_default
returns-in_default c = record { post = clocked (search rules); parts = parts }

pub returns-then-outs-ne20 : goal.returns-then-outs-ne20
returns-then-outs-ne20 c = record { post = clocked (search rules); parts = parts }

pub returns-in_default-load : goal.returns-in_default-load
returns-in_default-load c = record { post = clocked ((call_laws Core).no_core machine decode c.args.core.now c.args.core.now c.args.ins.now c.args.outs.now c.args.outs.now (sym c.in_default-load.ensures) refl refl); parts = parts }

pub returns : goal.returns
returns c =
    let w = c.args.core.now in
    let w' = c.save.new.w in
    let i = c.args.ins.now in
    let o' = c.write.new.outs in
    let k = c.in-Some-load.state in
    let read = c.in-Some.ensures in
    let was : decode w ≡ Some k = sym c.in-Some-load.ensures in
    let after = c.clock-outputs.ensures.after ∙ ap (next k) read.1 in
    let shows = c.clock-outputs.ensures.value ∙ ap (outputs k) read.1 in
    record {
      post = clocked ((call_laws Core).done machine decode w w' i c.args.outs.now o' k read.0
          (ap sound_out c.write.ensures ∙ sound_back c.clock-outputs.result)
          was
          (written w w' c.clock-outputs.new.self (next k (inputs_of (in_of i))) (long w k was) after c.save.ensures.is c.save.ensures.shaped)
          (ap out_of c.write.ensures ∙ out_back c.clock-outputs.result ∙ ap shown shows));
      parts = parts;
    }
