-- chrony's tracking reply (candm.h, CMD_Reply and RPY_Tracking, protocol version 6), by the places of its fields.
use Rattle.std.specs.Prelude.{◌≡◌, ◌≤◌, ℕ, zero, suc, Bool, List, [], ◌∷◌, length, Result, Ok, nat_le, ◌==◌}
use Rattle.clock_gate.specs.FirstFault.{first_fault, unless}
use Rattle.candm_codec.specs.Numbers.{number}
use Rattle.candm_codec.specs.declared.protocol.TheConstants.{VERSION, REPLY_PACKET, COMMAND_TRACKING, REPLY_TRACKING, STATUS_SUCCESS, LARGEST_LEAP, REPLY_LENGTH}
use Rattle.candm_codec.specs.declared.tracking.Leap.{Leap}
use Rattle.candm_codec.specs.declared.tracking.Leap.TheVariants.{Normal, Insert, Delete, Unsynchronised}
use Rattle.candm_codec.specs.declared.tracking.Tracking.{Tracking}
use Rattle.candm_codec.specs.declared.tracking.ReplyFault.{ReplyFault}
use Rattle.candm_codec.specs.declared.tracking.ReplyFault.TheVariants as fault

-- the leap of a code; one above 3 is refused before it comes to this
abbrev pub leap_at : ℕ → Leap
leap_at zero = Normal
leap_at (suc zero) = Insert
leap_at (suc (suc zero)) = Delete
leap_at (suc (suc (suc n))) = Unsynchronised

-- the code of a leap
abbrev pub code_of : Leap → ℕ
code_of Normal = 0
code_of Insert = 1
code_of Delete = 2
code_of Unsynchronised = 3

-- the fields at their places
abbrev pub tracking_at : List ℕ → Tracking
tracking_at bytes = record {
  sequence = number 4 16 bytes;
  ref_id = number 4 28 bytes;
  address = number 16 32 bytes;
  family = number 2 48 bytes;
  stratum = number 2 52 bytes;
  leap = leap_at (number 2 54 bytes);
  ref_time = record { high = number 4 56 bytes; low = number 4 60 bytes; nsec = number 4 64 bytes };
  current_correction = record { 0 = number 4 68 bytes };
  last_offset = record { 0 = number 4 72 bytes };
  rms_offset = record { 0 = number 4 76 bytes };
  freq_ppm = record { 0 = number 4 80 bytes };
  resid_freq_ppm = record { 0 = number 4 84 bytes };
  skew_ppm = record { 0 = number 4 88 bytes };
  root_delay = record { 0 = number 4 92 bytes };
  root_dispersion = record { 0 = number 4 96 bytes };
  last_update_interval = record { 0 = number 4 100 bytes };
}

-- the bytes are a reply that tells this; bytes at no place named here may be anything
pub record IsTrackingReply (bytes : List ℕ) (t : Tracking) : Type 0 where
  pub long : REPLY_LENGTH ≤ length bytes
  pub version : number 1 0 bytes ≡ VERSION
  pub packet_type : number 1 1 bytes ≡ REPLY_PACKET
  pub command : number 2 4 bytes ≡ COMMAND_TRACKING
  pub reply : number 2 6 bytes ≡ REPLY_TRACKING
  pub success : number 2 8 bytes ≡ STATUS_SUCCESS
  pub leap_known : number 2 54 bytes ≤ LARGEST_LEAP
  pub fields : t ≡ tracking_at bytes

-- what a reply is tested for, in order
abbrev pub reply_tests : List ℕ → List (Bool × ReplyFault)
reply_tests bytes =
    (nat_le REPLY_LENGTH (length bytes), fault.Short)
    ∷ (number 1 0 bytes == VERSION, fault.Version)
    ∷ (number 1 1 bytes == REPLY_PACKET, fault.PacketType)
    ∷ (number 2 4 bytes == COMMAND_TRACKING, fault.Command)
    ∷ (number 2 6 bytes == REPLY_TRACKING, fault.NotTracking)
    ∷ (number 2 8 bytes == STATUS_SUCCESS, fault.Status (number 2 8 bytes))
    ∷ (nat_le (number 2 54 bytes) LARGEST_LEAP, fault.Leap (number 2 54 bytes))
    ∷ []

-- what reading the bytes gives
unfoldable pub reply_of : List ℕ → Result Tracking ReplyFault
reply_of bytes = unless (first_fault (reply_tests bytes)) (Ok (tracking_at bytes))
