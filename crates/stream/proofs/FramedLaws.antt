-- What the code says that bytes begin with, turned round.
use Prim.Native.Nat.{ℕ, ◌≤◌}
use mathlib.Core.Bool.{true}
use mathlib.Core.Path.{◌≡◌, refl, sym, ap, ◌∙◌}
use mathlib.Core.List.{List, ◌++◌}
use native.Mathlib.Omega.{arith}
use lib.ListN.{length, take, drop, take-append-drop}
use lib.Seq.{length-take-le}
use Rattle.wire.specs.Request.{header_length, request_length}
use Rattle.stream.specs.Frame.{legal_start, Next, unfinished, bad_start, skipped, whole, next}
use Rattle.stream.specs.code.Framed.{frame_of}
use Rattle.stream.specs.declared.frame.Frame.TheVariants.{Unfinished, BadStart, Skipped, Whole}
use Rattle.stream.proofs.ChunkLaws.{skip_found, whole_found}
use Rattle.stream.proofs.FrameLaws.{legal_size, legal_start_append, request_length_append}

pub frame_unfinished : (n : Next) → frame_of n ≡ Unfinished → n ≡ unfinished
frame_unfinished unfinished e = refl
frame_unfinished bad_start e = cc
frame_unfinished (skipped header missing) e = cc
frame_unfinished (whole size) e = cc

pub frame_bad : (n : Next) → frame_of n ≡ BadStart → n ≡ bad_start
frame_bad unfinished e = cc
frame_bad bad_start e = refl
frame_bad (skipped header missing) e = cc
frame_bad (whole size) e = cc

pub frame_whole : (n : Next) (size : ℕ) → frame_of n ≡ Whole size → n ≡ whole size
frame_whole unfinished k e = cc
frame_whole bad_start k e = cc
frame_whole (skipped header missing) k e = cc
frame_whole (whole size) k e = cc

-- a header of k bytes, and so many bytes missing
pub record FrameSkipped (n : Next) (k missing : ℕ) : Type 0 where
  pub header : List ℕ
  pub long : length header ≡ k
  pub is : n ≡ skipped header missing

pub frame_skipped : (n : Next) (k missing : ℕ) → frame_of n ≡ Skipped k missing → FrameSkipped n k missing
frame_skipped unfinished k m e = absurd (let z : ◌≡◌ {A = ℕ} 0 1 = cc in omega arith)
frame_skipped bad_start k m e = absurd (let z : ◌≡◌ {A = ℕ} 0 1 = cc in omega arith)
frame_skipped (skipped header missing) k m e =
    record { header = header; long = cc; is = cc }
frame_skipped (whole size) k m e = absurd (let z : ◌≡◌ {A = ℕ} 0 1 = cc in omega arith)

-- the header is so many first bytes
pub header_part : (s header : List ℕ) (missing : ℕ) → next s ≡ skipped header missing
    → (length header ≤ length s) × (take (length header) s ≡ header)
header_part s header missing e =
    let k = skip_found s header missing e in
    let fits = k.skipped_is.header in
    let long : length header ≡ header_length s = ap length k.header_is ∙ length-take-le (header_length s) s fits in
    (omega arith, ap (λ (n : ℕ). take n s) long ∙ sym k.header_is)

-- the request is so many first bytes
pub record WholePart (s : List ℕ) (n : ℕ) : Type 0 where
  pub fits : n ≤ length s
  pub legal : legal_start (take n s) ≡ true
  pub long : length (take n s) ≡ request_length (take n s)

pub whole_part : (s : List ℕ) (n : ℕ) → next s ≡ whole n → WholePart s n
whole_part s n e =
    let (legal, size, fits) = whole_found s n e in
    let least = legal_size s legal in
    let long : length (take n s) ≡ n = length-take-le n s fits in
    let seam : take n s ++ drop n s ≡ s = take-append-drop n s in
    record {
      fits = fits;
      legal = sym (legal_start_append (take n s) (drop n s) (omega arith)) ∙ ap legal_start seam ∙ legal;
      long = long ∙ sym size ∙ ap request_length (sym seam) ∙ request_length_append (take n s) (drop n s) (omega arith);
    }
