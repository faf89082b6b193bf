-- Worked texts.
use Rattle.std.specs.Prelude.{ℕ, List, codes}

-- no line
abbrev pub nothing : List ℕ
nothing = codes ""

-- a call with a request and a response of two bytes
abbrev pub one_call : List ℕ
one_call = codes "settings 2 1400 10000 10000 4 14000 4 5 20 1024 256 1024 0\ncall 0.1.0 1 0 6869\nsend 0 0>1 1 DATA c 0.1.0 7 2 0 0 0 - 6869\ndeliver 0\nrun 1 0.1.0 0 6869 6869 0\nsend 1 1>0 1 DATA s 0.1.0 7 2 0 0 0 - 6869\ndeliver 1\ndone 0.1.0 6869\nok 3\n"

-- the lines of `one_call` without its first line
abbrev pub no_settings : List ℕ
no_settings = codes "call 0.1.0 1 0 6869\nsend 0 0>1 1 DATA c 0.1.0 7 2 0 0 0 - 6869\ndeliver 0\nrun 1 0.1.0 0 6869 6869 0\nsend 1 1>0 1 DATA s 0.1.0 7 2 0 0 0 - 6869\ndeliver 1\ndone 0.1.0 6869\nok 3\n"

-- with its `run` line twice
abbrev pub run_twice : List ℕ
run_twice = codes "settings 2 1400 10000 10000 4 14000 4 5 20 1024 256 1024 0\ncall 0.1.0 1 0 6869\nsend 0 0>1 1 DATA c 0.1.0 7 2 0 0 0 - 6869\ndeliver 0\nrun 1 0.1.0 0 6869 6869 0\nrun 1 0.1.0 0 6869 6869 0\nsend 1 1>0 1 DATA s 0.1.0 7 2 0 0 0 - 6869\ndeliver 1\ndone 0.1.0 6869\nok 3\n"

-- with another answer in its `done` line
abbrev pub another_answer : List ℕ
another_answer = codes "settings 2 1400 10000 10000 4 14000 4 5 20 1024 256 1024 0\ncall 0.1.0 1 0 6869\nsend 0 0>1 1 DATA c 0.1.0 7 2 0 0 0 - 6869\ndeliver 0\nrun 1 0.1.0 0 6869 6869 0\nsend 1 1>0 1 DATA s 0.1.0 7 2 0 0 0 - 6869\ndeliver 1\ndone 0.1.0 6868\nok 3\n"

-- without its `done` line
abbrev pub done_is_missing : List ℕ
done_is_missing = codes "settings 2 1400 10000 10000 4 14000 4 5 20 1024 256 1024 0\ncall 0.1.0 1 0 6869\nsend 0 0>1 1 DATA c 0.1.0 7 2 0 0 0 - 6869\ndeliver 0\nrun 1 0.1.0 0 6869 6869 0\nsend 1 1>0 1 DATA s 0.1.0 7 2 0 0 0 - 6869\ndeliver 1\nok 3\n"

-- two messages to one host, and a GRANT beyond the window
abbrev pub grant_too_far : List ℕ
grant_too_far = codes "settings 3 4 8 8 1 14000 4 5 20 1024 256 1024 0\ncall 0.1.0 2 0 000102030405060708090a0b0c0d0e0f10111213\nsend 0 0>2 1 DATA c 0.1.0 7 20 0 0 0 - 00010203\nsend 1 0>2 1 DATA c 0.1.0 7 20 4 0 0 - 04050607\ncall 1.1.0 2 0 000102030405060708090a0b0c0d0e0f10111213\nsend 2 1>2 1 DATA c 1.1.0 7 20 0 0 0 - 00010203\nsend 3 1>2 1 DATA c 1.1.0 7 20 4 0 0 - 04050607\ndeliver 0\nsend 4 2>0 1 GRANT s 0.1.0 12 0\ndeliver 2\ndeliver 3\nsend 5 2>1 1 GRANT s 1.1.0 20 0\nok 5\n"

-- everything is lost, and the client gives up a tick too early
abbrev pub timeout_too_early : List ℕ
timeout_too_early = codes "settings 2 1400 10000 10000 4 14000 4 5 20 1024 256 1024 0\ncall 0.1.0 1 0 6869\nsend 0 0>1 1 DATA c 0.1.0 7 2 0 0 0 - 6869\nclock 1\nclock 2\nclock 3\nclock 4\nsend 1 0>1 1 RESEND c 0.1.0 0 10000 3\nclock 5\nclock 6\nclock 7\nclock 8\nsend 2 0>1 1 RESEND c 0.1.0 0 10000 3\nclock 9\nclock 10\nclock 11\nclock 12\nsend 3 0>1 1 RESEND c 0.1.0 0 10000 3\nclock 13\nclock 14\nclock 15\nclock 16\nsend 4 0>1 1 RESEND c 0.1.0 0 10000 3\nclock 17\nclock 18\nclock 19\nclock 20\nsend 5 0>1 1 RESEND c 0.1.0 0 10000 3\nclock 21\nclock 22\nclock 23\nfail 0.1.0 timeout\nok 73\n"

-- a burial, and a packet that comes too late
abbrev pub late_packet : List ℕ
late_packet = codes "settings 2 1400 10000 10000 4 14000 2 1 10 1024 256 1024 0\ncall 0.1.0 1 0 61\nsend 0 0>1 1 DATA c 0.1.0 7 1 0 0 0 - 61\ndeliver 0\nrun 1 0.1.0 0 61 61 0\nsend 1 1>0 1 DATA s 0.1.0 7 1 0 0 0 - 61\nclock 1\nclock 2\nsend 2 0>1 1 RESEND c 0.1.0 0 10000 3\nsend 3 1>0 1 NEED_ACK s 0.1.0\nclock 3\nclock 4\nfail 0.1.0 timeout\nbury 1 0.1.0 28\nclock 5\nclock 6\nclock 7\nclock 8\nclock 9\nclock 10\ndeliver 0\nsend 4 1>0 1 UNKNOWN s 0.1.0 1\nclock 11\nrefused 10 Late 0 11\n"

-- a burial to its end
abbrev pub burial_to_its_end : List ℕ
burial_to_its_end = codes "settings 2 1400 10000 10000 4 14000 2 1 10 1024 256 1024 0\ncall 0.1.0 1 0 61\nsend 0 0>1 1 DATA c 0.1.0 7 1 0 0 0 - 61\ndeliver 0\nrun 1 0.1.0 0 61 61 0\nsend 1 1>0 1 DATA s 0.1.0 7 1 0 0 0 - 61\nclock 1\nclock 2\nsend 2 0>1 1 RESEND c 0.1.0 0 10000 3\nsend 3 1>0 1 NEED_ACK s 0.1.0\nclock 3\nclock 4\nfail 0.1.0 timeout\nbury 1 0.1.0 28\nclock 5\nclock 6\nclock 7\nclock 8\nclock 9\nclock 10\nclock 11\nclock 12\nclock 13\nclock 14\nclock 15\nclock 16\nclock 17\nclock 18\nclock 19\nclock 20\nclock 21\nclock 22\nclock 23\nclock 24\nclock 25\nclock 26\nclock 27\nclock 28\nclock 29\nfree 1 0.1.0\nok 89\n"

-- a server restarts while a response is on its way
abbrev pub server_restarts : List ℕ
server_restarts = codes "settings 2 1400 10000 10000 4 14000 4 5 20 1024 256 1024 0\ncall 0.1.0 1 1 61\nsend 0 0>1 1 DATA c 0.1.0 7 1 0 0 1 - 61\ncall 0.1.1 1 1 62\nsend 1 0>1 1 DATA c 0.1.1 7 1 0 0 1 - 62\ndeliver 0\nrun 1 0.1.0 1 61 0000000000000001 0\nsend 2 1>0 1 DATA s 0.1.0 7 8 0 0 0 - 0000000000000001\ndeliver 1\nrun 1 0.1.1 1 62 0000000000000002 0\nsend 3 1>0 1 DATA s 0.1.1 7 8 0 0 0 - 0000000000000002\ndeliver 2\ndone 0.1.0 0000000000000001\nrestart 1 2\nclock 1\nclock 2\nclock 3\nclock 4\nsend 4 0>1 1 RESEND c 0.1.1 0 10000 3\ndeliver 4\nsend 5 1>0 2 UNKNOWN s 0.1.1 0\ndeliver 5\nsend 6 0>1 1 DATA c 0.1.1 7 1 0 0 1 1.0 62\ndeliver 3\ndeliver 6\nrun 1 0.1.1 1 62 0000000000000001 0\nsend 7 1>0 2 DATA s 0.1.1 7 8 0 0 0 - 0000000000000001\ndeliver 7\ndone 0.1.1 0000000000000001\nok 23\n"

-- a server without room
abbrev pub server_is_full : List ℕ
server_is_full = codes "settings 3 1400 10000 10000 4 14000 4 5 2 1024 256 1 0\ncall 0.1.0 2 0 61\nsend 0 0>2 1 DATA c 0.1.0 7 1 0 0 0 - 61\ncall 1.1.0 2 0 62\nsend 1 1>2 1 DATA c 1.1.0 7 1 0 0 0 - 62\ndeliver 0\nrun 2 0.1.0 0 61 61 0\nsend 2 2>0 1 DATA s 0.1.0 7 1 0 0 0 - 61\ndeliver 1\nfull 2 1.1.0 rows 1 1\ndeliver 2\ndone 0.1.0 61\nclock 1\nclock 2\nclock 3\nclock 4\nsend 3 1>2 1 RESEND c 1.1.0 0 10000 3\nsend 4 2>0 1 NEED_ACK s 0.1.0\ndeliver 4\nsend 5 0>2 1 ACK c 0.1.0\ndeliver 5\nbury 2 0.1.0 6\nclock 5\nclock 6\nclock 7\nfree 2 0.1.0\nclock 8\nsend 6 1>2 1 RESEND c 1.1.0 0 10000 3\ndeliver 6\nsend 7 2>1 1 UNKNOWN s 1.1.0 0\ndeliver 7\nsend 8 1>2 1 DATA c 1.1.0 7 1 0 0 0 - 62\ndeliver 8\nrun 2 1.1.0 0 62 62 0\nsend 9 2>1 1 DATA s 1.1.0 7 1 0 0 0 - 62\nok 42\n"

-- the trace of a node
abbrev pub node : List ℕ
node = codes "settings 2 1400 10000 10000 4 14000 4 5 20 1024 256 1024 0\nclock 0\ncall 0.1.0 1 0 6869\nsend 0 0>1 1 DATA c 0.1.0 7 2 0 0 0 - 6869\nrecv 1 0 0101000700000001000000010000000000000002000000000000000000000000000000006869\nrun 1 0.1.0 0 6869 6869 0\nsend 1 1>0 1 DATA s 0.1.0 7 2 0 0 0 - 6869\nclock 1\nrecv 0 1 0101010700000001000000010000000000000002000000000000000000000000000000006869\ndone 0.1.0 6869\nclock 2\nok 3\n"

-- a packet that is stale at its host
abbrev pub stale_packet : List ℕ
stale_packet = codes "settings 2 1400 10000 10000 4 14000 4 5 1 1024 256 1024 0 0 2\ncall 0.1.0 1 0 61\nsend 0 0>1 1 DATA c 0.1.0 7 1 0 0 0 - 61\nclock 1\nclock 2\ndeliver 0\nstale 1 0 2\nok 4\n"
