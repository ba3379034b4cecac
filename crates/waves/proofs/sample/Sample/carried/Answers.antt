use Rattle.std.proofs.Common.{◌≡◌, ℕ, ◌+◌, ◌<◌, List, [], map, length, get_or, sym, ◌∙◌, Option, None, rules, arith}
use Rattle.std.specs.List.{range_with_len}
use Rattle.std.proofs.lemmas.List.{length-map, get_or-map}
use Rattle.std.proofs.lemmas.List.FromFn.{fill_by_all}
use Rattle.first.proofs.FromFn.{from_fn_is}
use Rattle.waves.specs.declared.wires.Signal.{Signal}
use Rattle.waves.specs.declared.wires.Wire.TheVariants.{Flag}
use Rattle.waves.proofs.sample.Sample.carried.Goals as goal

-- what stands in a place that there is not
abbrev none : Signal
none = record { wire = Flag (record { ref_ptr = (0, 0); now = [] }); value = None }

values : (xs : List Signal) (n : ℕ) → length xs ≡ n → map (λ s. s.value) xs ≡ map (λ (k : ℕ). (get_or xs k none).value) (range_with_len 0 n)
values xs n l =
    fill_by_all (λ (k : ℕ). (get_or xs k none).value) (map (λ s. s.value) xs) n None (length-map xs (λ s. s.value) ∙ l) (λ k b. get_or-map (λ s. s.value) xs k none None (omega arith))

pub returns-clause-ports : goal.returns-clause-ports
returns-clause-ports c l =
    let xs = c.args.self.now.ports in
    from_fn_is (λ (k : ℕ). (get_or xs k none).value) (λ i y q called. (search rules, search rules)) c.from_fn.result 25 None c.from_fn.ensures.items ∙ sym (values xs 25 l)

pub returns-clause-inside : goal.returns-clause-inside
returns-clause-inside c l =
    let xs = c.args.self.now.inside in
    from_fn_is (λ (k : ℕ). (get_or xs k none).value) (λ i y q called. (search rules, search rules)) c.from_fn-2.result 11 None c.from_fn-2.ensures.items ∙ sym (values xs 11 l)
