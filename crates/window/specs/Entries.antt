-- One instruction at work: what is filled in, one thing at a time.
use Rattle.std.specs.Prelude.{ℕ, Some, None, Option}
use Rattle.isa.specs.declared.execute.Outcome.{Outcome}
use Rattle.window.specs.declared.entry.Entry.{Entry}
use Rattle.window.specs.declared.entry.Number.{Number}

-- by whether something is known
abbrev pub given : {A C : Type 0} → Option A → C → (A → C) → C
given None c f = c
given (Some x) c f = f x

abbrev pub number : ℕ → Number
number n = record { 0 = n }

-- its word is wanted, and nothing is known yet
abbrev pub fresh : ℕ → ℕ → Entry
fresh p g = record { pc = p; predicted = g; word = None; left = None; right = None; outcome = None; loaded = None }

module _ (e : Entry) where
  abbrev pub with_word : ℕ → Entry
  with_word x = record {
    pc = e.pc;
    predicted = e.predicted;
    word = Some x;
    left = e.left;
    right = e.right;
    outcome = e.outcome;
    loaded = e.loaded;
  }

  abbrev pub with_left : ℕ → Entry
  with_left x = record {
    pc = e.pc;
    predicted = e.predicted;
    word = e.word;
    left = Some x;
    right = e.right;
    outcome = e.outcome;
    loaded = e.loaded;
  }

  abbrev pub with_right : ℕ → Entry
  with_right x = record {
    pc = e.pc;
    predicted = e.predicted;
    word = e.word;
    left = e.left;
    right = Some x;
    outcome = e.outcome;
    loaded = e.loaded;
  }

  abbrev pub with_outcome : Outcome → Entry
  with_outcome o = record {
    pc = e.pc;
    predicted = e.predicted;
    word = e.word;
    left = e.left;
    right = e.right;
    outcome = Some o;
    loaded = e.loaded;
  }

  abbrev pub with_loaded : ℕ → Entry
  with_loaded x = record {
    pc = e.pc;
    predicted = e.predicted;
    word = e.word;
    left = e.left;
    right = e.right;
    outcome = e.outcome;
    loaded = Some x;
  }

  -- another prediction of where the next is
  abbrev pub with_predicted : ℕ → Entry
  with_predicted g = record {
    pc = e.pc;
    predicted = g;
    word = e.word;
    left = e.left;
    right = e.right;
    outcome = e.outcome;
    loaded = e.loaded;
  }
