-- A request written is read as itself, whatever follows it.
use mathlib.Core.Path.{◌≡◌, refl, sym, ap, ◌∙◌}
use Prim.Native.Nat.{ℕ, ◌+◌}
use mathlib.Core.List.{List, ◌++◌, append_assoc}
use native.Mathlib.Omega.{arith}
use lib.ListN.{length, take, drop, length-append}
use lib.Seq.{take-append_seam, drop-append_seam, drop-drop}
use Rattle.wire.specs.Numbers.{little_endian, little_endian_of, field}
use Rattle.wire.specs.Request.{magic_number, magic, header_size, content_length, auth_length, header_length, request_length, Request, request_of, request_header, request_bytes}
use Rattle.wire.proofs.NumberLaws.{number_back}

module _ (q : Request) (rest : List ℕ) where
  abbrev written : List ℕ
  written = request_bytes q ++ rest

  abbrev header : List ℕ
  header = request_header q.provider q.session q.content_type q.accept_type q.auth_type (length q.body) (length q.auth) q.opcode

  abbrev behind : List ℕ
  behind = (q.body ++ q.auth) ++ rest

  cells : written ≡ header ++ behind
  unfolding request_bytes
  cells = append_assoc header (q.body ++ q.auth) rest

  header_long : length header ≡ 28
  unfolding request_header little_endian_of
  header_long = refl

  pub request_magic : magic written ≡ magic_number
  unfolding request_header little_endian_of field little_endian
  request_magic = ap magic cells

  pub request_size : header_size written ≡ 22
  unfolding request_header little_endian_of field little_endian
  request_size = ap header_size cells

  pub request_content : content_length written ≡ length q.body
  unfolding request_header little_endian_of field
  request_content = ap content_length cells ∙ number_back 3 (length q.body)

  pub request_auth : auth_length written ≡ length q.auth
  unfolding request_header little_endian_of field
  request_auth = ap auth_length cells ∙ number_back 1 (length q.auth)

  -- its length is its own
  pub request_long : request_length written ≡ length (request_bytes q)
  unfolding request_bytes
  request_long =
      let s = request_size in
      let c = request_content in
      let a = request_auth in
      let h = header_long in
      let l = length-append header (q.body ++ q.auth) in
      let b = length-append q.body q.auth in
      omega arith

  drop_header : drop (header_length written) written ≡ behind
  drop_header =
      let s = request_size in
      let h = header_long in
      let n : header_length written ≡ length header = omega arith in
      ap (λ (k : ℕ). drop k written) n ∙ ap (drop (length header)) cells ∙ drop-append_seam header behind

  body_back : take (content_length written) (drop (header_length written) written) ≡ q.body
  body_back =
      ap (λ (k : ℕ). take k (drop (header_length written) written)) request_content
      ∙ ap (take (length q.body)) (drop_header ∙ append_assoc q.body q.auth rest)
      ∙ take-append_seam q.body (q.auth ++ rest)

  auth_back : take (auth_length written) (drop (header_length written + content_length written) written) ≡ q.auth
  auth_back =
      ap (λ (k : ℕ). take k (drop (header_length written + content_length written) written)) request_auth
      ∙ ap (take (length q.auth))
      (sym (drop-drop (content_length written) (header_length written) written)
      ∙ ap (drop (content_length written)) (drop_header ∙ append_assoc q.body q.auth rest)
      ∙ ap (λ (k : ℕ). drop k (q.body ++ (q.auth ++ rest))) request_content
      ∙ drop-append_seam q.body (q.auth ++ rest))
      ∙ take-append_seam q.auth rest

  -- A REQUEST WRITTEN IS READ AS ITSELF
  pub request_back : q.major ≡ 1 → q.minor ≡ 0 → request_of written ≡ q
  unfolding request_of request_header little_endian_of field
  request_back major minor = λ i. record {
    major = (ap (field 6 1) cells ∙ number_back 0 1 ∙ sym major) i;
    minor = (ap (field 7 1) cells ∙ number_back 0 0 ∙ sym minor) i;
    provider = (ap (field 8 1) cells ∙ number_back 0 q.provider) i;
    session = (ap (field 9 8) cells ∙ number_back 7 q.session) i;
    content_type = (ap (field 17 1) cells ∙ number_back 0 q.content_type) i;
    accept_type = (ap (field 18 1) cells ∙ number_back 0 q.accept_type) i;
    auth_type = (ap (field 19 1) cells ∙ number_back 0 q.auth_type) i;
    opcode = (ap (field 26 2) cells ∙ number_back 1 q.opcode) i;
    body = body_back i;
    auth = auth_back i;
  }
