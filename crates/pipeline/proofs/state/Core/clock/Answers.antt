use Rattle.pipeline.proofs.StepRules.{Ran, next_is, outputs_is}
use Rattle.pipeline.proofs.state.Core.clock.Goals as goal

pub returns : goal.returns
returns c =
    let k = c.args.self.now in
    let i = c.args.inputs in
    let r : Ran k i = record {
      p1 = c.take_code.new.path;
      p2 = c.take_data.new.path;
      p3 = c.retire-retired.new.self;
      p4 = c.memory-ask.new.path;
      p5 = c.execute.new.path;
      p6 = c.read.new.path;
      asks = c.memory-ask.result;
      q = c.port-request.new.self;
      p7 = c.fetch-want.new.path;
      code = c.take_code.ensures;
      answer = c.take_data.ensures;
      writes = c.retire-retired.ensures.core;
      memory = c.memory-ask.ensures.path;
      wants = c.memory-ask.ensures.asks;
      executes = c.execute.ensures;
      reads = c.read.ensures;
      posts = c.port-request.ensures.core;
      fetches = c.fetch-want.ensures.path;
    } in
    record {
      after = next_is k i r;
      value = outputs_is k i r c.fetch-want.ensures.wants c.port-request.ensures.asks c.halted.ensures c.done.ensures c.retire-retired.ensures.shows;
    }
