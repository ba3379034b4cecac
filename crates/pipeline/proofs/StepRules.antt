-- The clock's rules, one after the other, are its step.
use Rattle.std.proofs.Common.{◌≡◌, ℕ, Option, ap, ◌∙◌}
use Rattle.isa.specs.declared.execute.Stop.{Stop}
use Rattle.pins.specs.declared.ports.Inputs.{Inputs}
use Rattle.pins.specs.declared.ports.Outputs.{Outputs}
use Rattle.pins.specs.declared.ports.Request.{Request}
use Rattle.pins.specs.declared.ports.Retired.{Retired}
use Rattle.pins.specs.declared.ports.Done.{Done}
use Rattle.window.specs.declared.datapath.Datapath.{Datapath}
use Rattle.window.specs.Retiring.{retired, done}
use Rattle.window.specs.Asking.{halts}
use Rattle.pipeline.specs.declared.state.Core.{Core}
use Rattle.pipeline.specs.declared.stages.Ask.{Ask}
use Rattle.pipeline.specs.Step.{code_in, data_in, memory_stage, memory_ask, execute_stage, read_stage, ported, port_request, fetch_stage, fetch_want, done_of, heard, wrote, ask, staged, posted, next, outputs}

-- the states within a clock, as the code comes to them
pub record Ran (k : Core) (i : Inputs) : Type 0 where
  pub p1 : Datapath
  pub p2 : Datapath
  pub p3 : Datapath
  pub p4 : Datapath
  pub p5 : Datapath
  pub p6 : Datapath
  pub asks : Option Ask
  pub q : Core
  pub p7 : Datapath
  pub code : p1 ≡ code_in k.path i.code
  pub answer : p2 ≡ data_in p1 i.answer
  pub writes : p3 ≡ retired p2
  pub memory : p4 ≡ memory_stage p3
  pub wants : asks ≡ memory_ask p3
  pub executes : p5 ≡ execute_stage p4
  pub reads : p6 ≡ read_stage p5
  pub posts : q ≡ ported (record { path = p6; turn = k.turn }) asks
  pub fetches : p7 ≡ fetch_stage q.path

module _ (k : Core) (i : Inputs) (r : Ran k i) where
  hears : r.p2 ≡ heard k i
  hears = r.answer ∙ ap (λ z. data_in z i.answer) r.code

  wrote_is : r.p3 ≡ wrote k i
  wrote_is = r.writes ∙ ap retired hears

  asks_is : r.asks ≡ ask k i
  asks_is = r.wants ∙ ap memory_ask wrote_is

  read_is : r.p6 ≡ (staged k i).path
  read_is = r.reads ∙ ap read_stage (r.executes ∙ ap execute_stage (r.memory ∙ ap memory_stage wrote_is))

  posts_is : r.q ≡ posted k i
  posts_is = r.posts ∙ (λ j. ported (record { path = read_is j; turn = k.turn }) (asks_is j))

  pub next_is : ◌≡◌ {A = Core} (record { path = r.p7; turn = r.q.turn }) (next k i)
  unfolding next
  next_is = λ j. record { path = (r.fetches ∙ ap (λ (z : Core). fetch_stage z.path) posts_is) j; turn = (posts_is j).turn }

  pub outputs_is :
      {w : Option ℕ} {q : Option Request} {h : Option Stop} {d : Done} {t : Option Retired}
      → w ≡ fetch_want r.q.path → q ≡ port_request (record { path = r.p6; turn = k.turn }) r.asks → h ≡ halts r.p7 → d ≡ done_of t → t ≡ done r.p2
      → ◌≡◌ {A = Outputs} (record { want = w; request = q; stopped = h; done = d }) (outputs k i)
  unfolding outputs
  outputs_is ew eq eh ed et = λ j. record {
    want = (ew ∙ ap (λ (z : Core). fetch_want z.path) posts_is) j;
    request = (eq ∙ (λ n. port_request (record { path = read_is n; turn = k.turn }) (asks_is n))) j;
    stopped = (eh ∙ ap (λ (z : Core). halts z.path) next_is) j;
    done = (ed ∙ ap done_of (et ∙ ap done hears)) j;
  }
