-- A response written is read as itself, whatever follows it.
use mathlib.Core.Path.{◌≡◌, refl, ap, ◌∙◌}
use Prim.Native.Nat.{ℕ, ◌+◌}
use mathlib.Core.List.{List, ◌++◌, append_assoc}
use native.Mathlib.Omega.{arith}
use lib.ListN.{length, take, drop, length-append}
use lib.Seq.{take-append_seam, drop-append_seam}
use Rattle.wire.specs.Numbers.{little_endian, little_endian_of, field}
use Rattle.wire.specs.Request.{magic_number, magic, header_size}
use Rattle.wire.specs.Response.{response_header, response_bytes, response_header_size, response_least, response_of}
use Rattle.wire.proofs.NumberLaws.{number_back}

module _ (provider session content_type opcode status : ℕ) (body rest : List ℕ) where
  abbrev written : List ℕ
  written = response_bytes provider session content_type opcode status body ++ rest

  abbrev header : List ℕ
  header = response_header provider session content_type (length body) opcode status

  cells : written ≡ header ++ (body ++ rest)
  unfolding response_bytes
  cells = append_assoc header body rest

  header_long : length header ≡ response_least
  unfolding response_header little_endian_of
  header_long = refl

  pub response_long : length (response_bytes provider session content_type opcode status body) ≡ response_least + length body
  unfolding response_bytes
  response_long =
      let h = header_long in
      let l = length-append header body in
      omega arith

  pub response_magic : magic written ≡ magic_number
  unfolding response_header little_endian_of field little_endian
  response_magic = ap magic cells

  pub response_size : header_size written ≡ response_header_size
  unfolding response_header little_endian_of field little_endian
  response_size = ap header_size cells

  pub response_body : take (length body) (drop response_least written) ≡ body
  response_body =
      ap (λ (l : List ℕ). take (length body) (drop response_least l)) cells
      ∙ ap (take (length body)) (ap (λ (k : ℕ). drop k (header ++ (body ++ rest))) (let h : response_least ≡ length header = omega (arith, header_long) in h) ∙ drop-append_seam header (body ++ rest))
      ∙ take-append_seam body rest

  -- A RESPONSE'S HEADER WRITTEN IS READ AS ITSELF
  pub response_back : response_of written ≡ record {
    major = 1;
    minor = 0;
    provider = provider;
    session = session;
    content_type = content_type;
    content_length = length body;
    opcode = opcode;
    status = status;
  }
  unfolding response_of response_header little_endian_of field
  response_back = λ i. record {
    major = (ap (field 6 1) cells ∙ number_back 0 1) i;
    minor = (ap (field 7 1) cells ∙ number_back 0 0) i;
    provider = (ap (field 8 1) cells ∙ number_back 0 provider) i;
    session = (ap (field 9 8) cells ∙ number_back 7 session) i;
    content_type = (ap (field 17 1) cells ∙ number_back 0 content_type) i;
    content_length = (ap (field 18 4) cells ∙ number_back 3 (length body)) i;
    opcode = (ap (field 22 2) cells ∙ number_back 1 opcode) i;
    status = (ap (field 24 2) cells ∙ number_back 1 status) i;
  }
