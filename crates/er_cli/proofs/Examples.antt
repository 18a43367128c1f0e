-- The statuses, how long a script and a list may be, how long a client may take, and how long a log is that holds something, as literals.
use Rattle.std.proofs.Common.{◌≡◌, refl}
use Rattle.er_cli.specs.{declared.TheConstants.{DONE, REFUSED, USAGE, DEVICE, MEMORY}, declared.importing.TheConstants.MAX_LIST_BYTES}
use Rattle.er_cli.specs.declared.input.TheConstants.{MAX_SCRIPT_BYTES}
use Rattle.er_cli.specs.declared.client.TheConstants.{READ_SECONDS, WRITE_SECONDS, REQUEST_SECONDS, CLIENT_SECONDS}
use Rattle.er_cli.specs.declared.client.TheConstants.{REST_MILLISECONDS, REST_BYTES, INTERRUPTIONS}
use Rattle.er_cli.specs.declared.logs.TheConstants.{LEAST_LOG}

pub done_is_0 : DONE ≡ 0
done_is_0 = refl

pub refused_is_1 : REFUSED ≡ 1
refused_is_1 = refl

pub usage_is_2 : USAGE ≡ 2
usage_is_2 = refl

pub device_is_3 : DEVICE ≡ 3
device_is_3 = refl

pub memory_is_4 : MEMORY ≡ 4
memory_is_4 = refl

pub a_script_has_65536_bytes : MAX_SCRIPT_BYTES ≡ 65536
a_script_has_65536_bytes = refl

pub a_list_has_131072_bytes : MAX_LIST_BYTES ≡ 131072
a_list_has_131072_bytes = refl

pub a_read_takes_1_second : READ_SECONDS ≡ 1
a_read_takes_1_second = refl

pub a_write_takes_10_seconds : WRITE_SECONDS ≡ 10
a_write_takes_10_seconds = refl

pub a_request_takes_5_seconds : REQUEST_SECONDS ≡ 5
a_request_takes_5_seconds = refl

pub a_client_takes_30_seconds : CLIENT_SECONDS ≡ 30
a_client_takes_30_seconds = refl

pub the_rest_takes_500_milliseconds : REST_MILLISECONDS ≡ 500
the_rest_takes_500_milliseconds = refl

pub the_rest_has_4194304_bytes : REST_BYTES ≡ 4194304
the_rest_has_4194304_bytes = refl

pub a_read_is_interrupted_1000_times : INTERRUPTIONS ≡ 1000
a_read_is_interrupted_1000_times = refl

pub a_log_with_a_frame_has_568_bytes : LEAST_LOG ≡ 568
a_log_with_a_frame_has_568_bytes = refl
