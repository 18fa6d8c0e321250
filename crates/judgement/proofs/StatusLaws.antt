-- Where a status stands among the counters of refused requests, and the number that stands there.
use Prim.Native.Nat.{ℕ, zero, suc, ◌<◌}
use mathlib.Core.Path.{◌≡◌, refl, sym, ◌∙◌}
use mathlib.Core.Bool.{true, false, not}
use mathlib.Core.List.{List, [], ◌∷◌, map}
use native.Mathlib.Omega.{arith}
use borrow.Author.Tests.{not-true, not-false}
use lib.ListN.{length, get_or}
use lib.Dec.{eqb}
use denote.Enum.Bare.{sameb}
use Rattle.judgement.specs.Status.{status_number, refused_statuses}
use Rattle.judgement.specs.Counts.{index_of}
use Rattle.judgement.specs.contracts.Status.{the_type}
use Rattle.judgement.specs.declared.Status.{Status}
use Rattle.judgement.specs.declared.Status.TheVariants.{Success, WrongProviderId, ContentTypeNotSupported, AcceptTypeNotSupported, WireProtocolVersionNotSupported, ProviderDoesNotExist, DeserializingBodyFailed, OpcodeDoesNotExist, AuthenticationError, AuthenticatorDoesNotExist, InvalidHeader, NotAuthenticated, BodySizeExceedsLimit, PsaErrorNotPermitted, PsaErrorNotSupported, PsaErrorInvalidArgument, PsaErrorAlreadyExists, PsaErrorDoesNotExist, PsaErrorInsufficientStorage, PsaErrorInvalidSignature}

-- the numbers of the refused statuses
abbrev pub refused_numbers : List ℕ
refused_numbers = map status_number refused_statuses

-- Success stands behind them, where there is no number
pub number_there : (status : Status) → get_or refused_numbers (index_of status refused_statuses) 0 ≡ status_number status
unfolding index_of status_number
number_there Success = refl
number_there WrongProviderId = refl
number_there ContentTypeNotSupported = refl
number_there AcceptTypeNotSupported = refl
number_there WireProtocolVersionNotSupported = refl
number_there ProviderDoesNotExist = refl
number_there DeserializingBodyFailed = refl
number_there OpcodeDoesNotExist = refl
number_there AuthenticationError = refl
number_there AuthenticatorDoesNotExist = refl
number_there InvalidHeader = refl
number_there NotAuthenticated = refl
number_there BodySizeExceedsLimit = refl
number_there PsaErrorNotPermitted = refl
number_there PsaErrorNotSupported = refl
number_there PsaErrorInvalidArgument = refl
number_there PsaErrorAlreadyExists = refl
number_there PsaErrorDoesNotExist = refl
number_there PsaErrorInsufficientStorage = refl
number_there PsaErrorInvalidSignature = refl

-- a number that is not 0 stands in the list
below : (numbers : List ℕ) (i : ℕ) → 0 < get_or numbers i 0 → i < length numbers
below [] i h = omega arith
below (n ∷ numbers) zero h = omega arith
below (n ∷ numbers) (suc i) h = omega (arith, below numbers i h)

-- every status but Success is among those that are refused
pub index_below : (status : Status) → 0 < status_number status → index_of status refused_statuses < length refused_statuses
index_below status h = below refused_numbers (index_of status refused_statuses) (rw (number_there status) h)

-- ---- Success is the status whose number is 0, as the derived test of equality says it

pub is_success : (status : Status) → sameb the_type status Success ≡ eqb (status_number status) 0
unfolding status_number
is_success Success = refl
is_success WrongProviderId = refl
is_success ContentTypeNotSupported = refl
is_success AcceptTypeNotSupported = refl
is_success WireProtocolVersionNotSupported = refl
is_success ProviderDoesNotExist = refl
is_success DeserializingBodyFailed = refl
is_success OpcodeDoesNotExist = refl
is_success AuthenticationError = refl
is_success AuthenticatorDoesNotExist = refl
is_success InvalidHeader = refl
is_success NotAuthenticated = refl
is_success BodySizeExceedsLimit = refl
is_success PsaErrorNotPermitted = refl
is_success PsaErrorNotSupported = refl
is_success PsaErrorInvalidArgument = refl
is_success PsaErrorAlreadyExists = refl
is_success PsaErrorDoesNotExist = refl
is_success PsaErrorInsufficientStorage = refl
is_success PsaErrorInvalidSignature = refl

pub refused_number : (status : Status) → true ≡ not (sameb the_type status Success) → eqb (status_number status) 0 ≡ false
refused_number status e = sym (is_success status) ∙ not-true _ (sym e)

pub served_number : (status : Status) → false ≡ not (sameb the_type status Success) → eqb (status_number status) 0 ≡ true
served_number status e = sym (is_success status) ∙ not-false _ (sym e)
