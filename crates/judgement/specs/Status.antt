-- The number of each status ("Order of judgement on one request", its table).
use Rattle.std.specs.Prelude.{ℕ, List, [], ◌∷◌, length}
use Rattle.judgement.specs.declared.Status.{Status}
use Rattle.judgement.specs.declared.Status.TheVariants.{Success, WrongProviderId, ContentTypeNotSupported, AcceptTypeNotSupported, WireProtocolVersionNotSupported, ProviderDoesNotExist, DeserializingBodyFailed, OpcodeDoesNotExist, AuthenticationError, AuthenticatorDoesNotExist, InvalidHeader, NotAuthenticated, BodySizeExceedsLimit, PsaErrorNotPermitted, PsaErrorNotSupported, PsaErrorInvalidArgument, PsaErrorAlreadyExists, PsaErrorDoesNotExist, PsaErrorInsufficientStorage, PsaErrorInvalidSignature}

unfoldable pub status_number : Status → ℕ
status_number Success = 0
status_number WrongProviderId = 1
status_number ContentTypeNotSupported = 2
status_number AcceptTypeNotSupported = 3
status_number WireProtocolVersionNotSupported = 4
status_number ProviderDoesNotExist = 6
status_number DeserializingBodyFailed = 7
status_number OpcodeDoesNotExist = 9
status_number AuthenticationError = 11
status_number AuthenticatorDoesNotExist = 12
status_number InvalidHeader = 17
status_number NotAuthenticated = 19
status_number BodySizeExceedsLimit = 20
status_number PsaErrorNotPermitted = 1133
status_number PsaErrorNotSupported = 1134
status_number PsaErrorInvalidArgument = 1135
status_number PsaErrorAlreadyExists = 1139
status_number PsaErrorDoesNotExist = 1140
status_number PsaErrorInsufficientStorage = 1142
status_number PsaErrorInvalidSignature = 1149

-- all but Success, ascending: the order of the counters of refused requests
abbrev pub refused_statuses : List Status
refused_statuses =
    WrongProviderId ∷ ContentTypeNotSupported ∷ AcceptTypeNotSupported ∷ WireProtocolVersionNotSupported
    ∷ ProviderDoesNotExist ∷ DeserializingBodyFailed ∷ OpcodeDoesNotExist ∷ AuthenticationError
    ∷ AuthenticatorDoesNotExist ∷ InvalidHeader ∷ NotAuthenticated ∷ BodySizeExceedsLimit ∷ PsaErrorNotPermitted
    ∷ PsaErrorNotSupported ∷ PsaErrorInvalidArgument ∷ PsaErrorAlreadyExists ∷ PsaErrorDoesNotExist
    ∷ PsaErrorInsufficientStorage ∷ PsaErrorInvalidSignature ∷ []

abbrev pub refused_count : ℕ
refused_count = length refused_statuses
