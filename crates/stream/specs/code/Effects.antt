-- The three kinds of effect that a call has.
use Rattle.std.specs.Prelude.{ℕ, ◌+◌, Some, None}
use Rattle.reading.specs.Call.{Effect}
use Rattle.stream.specs.Rules.{Verdict, Connection, closed, State}

module _ {Reg Count Out : Type 0} where
  -- `n` bytes are taken and bring no response
  abbrev pub waiting : State Reg Count → ℕ → Connection → Effect (State Reg Count) Out
  waiting s n connection = record {
    taken = n;
    event = None;
    kept = record {
      connection = connection;
      registry = s.registry;
      totals = record {
        taken = s.totals.taken + n;
        answered = s.totals.answered;
        dropped = s.totals.dropped;
        counts = s.totals.counts;
      };
    };
  }

  -- `n` bytes are taken, the last of them being the last of a request of `size` bytes
  abbrev pub answering : State Reg Count → (n size : ℕ) → Verdict Reg Count Out → Connection → Effect (State Reg Count) Out
  answering s n size v connection = record {
    taken = n;
    event = Some v.response;
    kept = record {
      connection = connection;
      registry = v.registry;
      totals = record {
        taken = s.totals.taken + n;
        answered = s.totals.answered + size;
        dropped = s.totals.dropped;
        counts = v.counts;
      };
    };
  }

  -- `n` bytes are taken and dropped
  abbrev pub dropping : State Reg Count → ℕ → Effect (State Reg Count) Out
  dropping s n = record {
    taken = n;
    event = None;
    kept = record {
      connection = closed;
      registry = s.registry;
      totals = record {
        taken = s.totals.taken + n;
        answered = s.totals.answered;
        dropped = s.totals.dropped + n;
        counts = s.totals.counts;
      };
    };
  }
