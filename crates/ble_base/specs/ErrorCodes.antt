-- The error codes that this controller gives, by their names in the list (Core 5.2, volume 1 part F, section 1.3).
use Rattle.std.specs.Prelude.{ℕ}

-- Success
abbrev pub success : ℕ
success = 0x00

-- Unknown HCI Command
abbrev pub unknown_hci_command : ℕ
unknown_hci_command = 0x01

-- Unknown Connection Identifier
abbrev pub unknown_connection_identifier : ℕ
unknown_connection_identifier = 0x02

-- PIN or Key Missing
abbrev pub pin_or_key_missing : ℕ
pin_or_key_missing = 0x06

-- Memory Capacity Exceeded
abbrev pub memory_capacity_exceeded : ℕ
memory_capacity_exceeded = 0x07

-- Connection Timeout
abbrev pub connection_timeout : ℕ
connection_timeout = 0x08

-- Connection Limit Exceeded
abbrev pub connection_limit_exceeded : ℕ
connection_limit_exceeded = 0x09

-- Connection Already Exists
abbrev pub connection_already_exists : ℕ
connection_already_exists = 0x0B

-- Command Disallowed
abbrev pub command_disallowed : ℕ
command_disallowed = 0x0C

-- Connection Rejected due to Limited Resources
abbrev pub limited_resources : ℕ
limited_resources = 0x0D

-- Unsupported Feature or Parameter Value
abbrev pub unsupported_feature_or_value : ℕ
unsupported_feature_or_value = 0x11

-- Invalid HCI Command Parameters
abbrev pub invalid_hci_parameters : ℕ
invalid_hci_parameters = 0x12

-- Remote User Terminated Connection
abbrev pub remote_user_terminated : ℕ
remote_user_terminated = 0x13

-- Connection Terminated By Local Host
abbrev pub terminated_by_local_host : ℕ
terminated_by_local_host = 0x16

-- Unsupported Remote Feature
abbrev pub unsupported_remote_feature : ℕ
unsupported_remote_feature = 0x1A

-- Invalid LMP Parameters / Invalid LL Parameters
abbrev pub invalid_ll_parameters : ℕ
invalid_ll_parameters = 0x1E

-- LMP Response Timeout / LL Response Timeout
abbrev pub ll_response_timeout : ℕ
ll_response_timeout = 0x22

-- LMP Error Transaction Collision / LL Procedure Collision
abbrev pub ll_procedure_collision : ℕ
ll_procedure_collision = 0x23

-- Instant Passed
abbrev pub instant_passed : ℕ
instant_passed = 0x28

-- Different Transaction Collision
abbrev pub different_transaction_collision : ℕ
different_transaction_collision = 0x2A

-- Unacceptable Connection Parameters
abbrev pub unacceptable_parameters : ℕ
unacceptable_parameters = 0x3B

-- Connection Terminated due to MIC Failure
abbrev pub mic_failure : ℕ
mic_failure = 0x3D

-- Connection Failed to be Established / Synchronization Timeout
abbrev pub connection_not_established : ℕ
connection_not_established = 0x3E
