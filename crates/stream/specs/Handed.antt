-- A judgement that hands out a record for the journal beside the response, and the two buffers that a call writes them to.
use Rattle.std.specs.Prelude.{ℕ, List, [], Option, Some, None}
use Rattle.reading.specs.Calls.{Answer, joined_out}
use Rattle.reading.specs.Buffer.{Written, written, bytes_of, as_one}
use Rattle.stream.specs.Rules.{Verdict, Judgement}

-- what a request brings
pub record Handed : Type 0 where
  pub response : List ℕ
  pub recorded : List ℕ  -- [] for none

module _ {Reg Count : Type 0} where
  abbrev pub handing : (recorded : List ℕ) → Verdict Reg Count (List ℕ) → Verdict Reg Count Handed
  handing recorded v = record {
    response = record { response = v.response; recorded = recorded };
    registry = v.registry;
    counts = v.counts;
  }

  -- the same judgement, with a record told from the registry before, the request and the verdict on it
  abbrev pub recording : (record_of : Reg → (request : List ℕ) → Verdict Reg Count (List ℕ) → List ℕ) → Judgement Reg Count (List ℕ) → Judgement Reg Count Handed
  recording record_of J = record {
    no_counts = J.no_counts;
    on_bad_start = λ r c. handing [] (J.on_bad_start r c);
    on_oversized = λ r c header. handing [] (J.on_oversized r c header);
    on_request = λ r c request. let v = J.on_request r c request in handing (record_of r request v) v;
  }

-- ---- the buffers

pub record Lent : Type 0 where
  pub response : List ℕ
  pub journal : List ℕ

pub record Given : Type 0 where
  pub response : Written
  pub journal : Written

unfoldable pub give : Option Handed → Lent → Given
give None lent = record { response = written [] lent.response; journal = written [] lent.journal }
give (Some h) lent = record { response = written h.response lent.response; journal = written h.recorded lent.journal }

-- the joined responses, they one by one, and the joined records
module _ {Code : Type 0} where
  abbrev pub joined_responses : List (Answer Code Given) → List ℕ
  joined_responses answers = joined_out (λ g. bytes_of g.response) answers

  abbrev pub responses_in : List (Answer Code Given) → List (List ℕ)
  responses_in answers = joined_out (λ g. as_one g.response) answers

  abbrev pub joined_records : List (Answer Code Given) → List ℕ
  joined_records answers = joined_out (λ g. bytes_of g.journal) answers
