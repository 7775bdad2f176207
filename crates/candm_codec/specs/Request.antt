-- A request for tracking (candm.h, CMD_Request, protocol version 6), by the places of its fields.
use Rattle.std.specs.Prelude.{◌≡◌, ◌≤◌, ℕ, Bool, List, [], ◌∷◌, length, Result, Ok, nat_le, ◌==◌}
use Rattle.clock_gate.specs.FirstFault.{first_fault, unless}
use Rattle.candm_codec.specs.Numbers.{number}
use Rattle.candm_codec.specs.declared.protocol.TheConstants.{VERSION, REQUEST_PACKET, COMMAND_TRACKING, REQUEST_LENGTH}
use Rattle.candm_codec.specs.declared.request.Request.{Request}
use Rattle.candm_codec.specs.declared.request.RequestFault.{RequestFault}
use Rattle.candm_codec.specs.declared.request.RequestFault.TheVariants as fault

-- the fields at their places
abbrev pub request_at : List ℕ → Request
request_at bytes = record { sequence = number 4 8 bytes; attempt = number 2 6 bytes }

-- the bytes are a request that asks this; bytes at no place named here may be anything
pub record IsTrackingRequest (bytes : List ℕ) (r : Request) : Type 0 where
  pub long : REQUEST_LENGTH ≤ length bytes
  pub version : number 1 0 bytes ≡ VERSION
  pub packet_type : number 1 1 bytes ≡ REQUEST_PACKET
  pub command : number 2 4 bytes ≡ COMMAND_TRACKING
  pub fields : r ≡ request_at bytes

-- what a request is tested for, in order
abbrev pub request_tests : List ℕ → List (Bool × RequestFault)
request_tests bytes =
    (nat_le REQUEST_LENGTH (length bytes), fault.Short)
    ∷ (number 1 0 bytes == VERSION, fault.Version)
    ∷ (number 1 1 bytes == REQUEST_PACKET, fault.PacketType)
    ∷ (number 2 4 bytes == COMMAND_TRACKING, fault.Command)
    ∷ []

-- what reading the bytes gives
unfoldable pub request_of : List ℕ → Result Request RequestFault
request_of bytes = unless (first_fault (request_tests bytes)) (Ok (request_at bytes))
