-- The table of rules: each with its number, its group's hundred plus its own.
-- Trusted: part of what a promise means.
use Rattle.rvc_base.specs.declared.refusal.Rule.{Rule}

-- L1: a byte stands outside the alphabet, or a `!` without `=` at once behind it. Place: that byte.
abbrev pub foreign_byte : Rule
foreign_byte = record { 0 = 101 }

-- L2: a comment is never closed. Place: its start.
abbrev pub open_comment : Rule
open_comment = record { 0 = 102 }

-- L3: a number needs more than 128 bits. Place: the number.
abbrev pub number_too_big : Rule
number_too_big = record { 0 = 103 }

-- L4: a number is followed at once by `.` and a digit, by a letter or by `_`. Place: the number.
abbrev pub number_runs_on : Rule
number_runs_on = record { 0 = 104 }

-- L5: a string literal. Place: its quote.
abbrev pub string_literal : Rule
string_literal = record { 0 = 105 }

-- L6: a decimal number of several digits begins with 0. Place: the number.
abbrev pub leading_zero : Rule
leading_zero = record { 0 = 106 }

-- G1: the tokens spell no file. Place: the first token that can't follow, or the end.
abbrev pub spells_no_file : Rule
spells_no_file = record { 0 = 201 }

-- G2: a tree is higher than 256. Place: the part that passes it.
abbrev pub too_high : Rule
too_high = record { 0 = 202 }

-- S1: a name, port or type is unknown. Place: the name.
abbrev pub unknown_name : Rule
unknown_name = record { 0 = 301 }

-- S2: a name is declared twice in one scope, or two imports bring different things under one name. Place: the second.
abbrev pub declared_twice : Rule
declared_twice = record { 0 = 302 }

-- S3: an import isn't found. Place: the word `import`.
abbrev pub import_not_found : Rule
import_not_found = record { 0 = 303 }

-- S4: functions or procedures call themselves, directly or indirectly. Place: one such call.
abbrev pub recursion : Rule
recursion = record { 0 = 304 }

-- S5: a file's package, name or kind isn't what the class or import asks for, or a name is used as what it isn't. Place: the file's start, or the name.
abbrev pub not_as_asked : Rule
not_as_asked = record { 0 = 305 }

-- S6: imports lead in a circle. Place: one `import` on it.
abbrev pub import_cycle : Rule
import_cycle = record { 0 = 306 }

-- T1: kinds don't match. Place: the expression.
abbrev pub wrong_kind : Rule
wrong_kind = record { 0 = 401 }

-- T2: a type argument is missing, unknown or outside its range. Place: the type.
abbrev pub wrong_type_argument : Rule
wrong_type_argument = record { 0 = 402 }

-- T3: the type is `float`, `half` or `String`. Place: the type.
abbrev pub unsupported_type : Rule
unsupported_type = record { 0 = 403 }

-- T4: a constant is assigned. Place: the statement.
abbrev pub constant_assigned : Rule
constant_assigned = record { 0 = 404 }

-- T5: list lengths differ. Place: the expression.
abbrev pub wrong_length : Rule
wrong_length = record { 0 = 405 }

-- T6: a wrong number of arguments. Place: the call.
abbrev pub wrong_number_of_arguments : Rule
wrong_number_of_arguments = record { 0 = 406 }

-- T7: a constant expression traps. Place: the expression.
abbrev pub constant_traps : Rule
constant_traps = record { 0 = 407 }

-- T8: a list is a parameter or result of a function or procedure, or the type of a port. Place: the type.
abbrev pub list_not_allowed : Rule
list_not_allowed = record { 0 = 408 }

-- T9: an expression that must be constant isn't. Place: the expression.
abbrev pub not_constant : Rule
not_constant = record { 0 = 409 }

-- A1: a port is named twice in the header or in one action. Place: the second.
abbrev pub port_named_twice : Rule
port_named_twice = record { 0 = 501 }

-- A2: patterns or outputs mix names and places, or are more than the ports. Place: the first wrong one.
abbrev pub wrong_ports : Rule
wrong_ports = record { 0 = 502 }

-- A3: a tag is the prefix of no action's tag, `initialize` included. Place: the tag.
abbrev pub unknown_tag : Rule
unknown_tag = record { 0 = 503 }

-- A4: two transitions send one action from one state to different states. Place: the later transition.
abbrev pub ambiguous_transition : Rule
ambiguous_transition = record { 0 = 504 }

-- A5: an action is above itself. Place: the first word `priority`.
abbrev pub priority_cycle : Rule
priority_cycle = record { 0 = 505 }

-- A6: a second `initialize`, or one with a guard. Place: it.
abbrev pub wrong_initialize : Rule
wrong_initialize = record { 0 = 506 }

-- Z1: a file passes its limit. Place: the first byte past it.
abbrev pub file_too_long : Rule
file_too_long = record { 0 = 601 }

-- Z2: more than 256 actions or 1,024 states. Place: the actor.
abbrev pub too_many_actions : Rule
too_many_actions = record { 0 = 602 }

-- Z3: more than 32 ports in a direction. Place: the actor or network.
abbrev pub too_many_ports : Rule
too_many_ports = record { 0 = 603 }

-- Z4: a list has more than 16,384 scalars or items. Place: its type or expression.
abbrev pub list_too_long : Rule
list_too_long = record { 0 = 604 }

-- Z5: a `repeat` is below 1, or an action takes or gives more than 4,096 tokens on a port. Place: the pattern or output.
abbrev pub wrong_repeat : Rule
wrong_repeat = record { 0 = 605 }

-- Z6: the variables of an actor have more than 65,536 scalars. Place: the actor.
abbrev pub too_many_variables : Rule
too_many_variables = record { 0 = 606 }

-- Z7: more than 1,024 instances. Place: the instance that passes.
abbrev pub too_many_instances : Rule
too_many_instances = record { 0 = 607 }

-- Z8: more than 4,096 links. Place: the start of the top file.
abbrev pub too_many_links : Rule
too_many_links = record { 0 = 608 }

-- Z9: capacities add to more than 16,777,216. Place: the start of the top file.
abbrev pub too_much_capacity : Rule
too_much_capacity = record { 0 = 609 }

-- Z10: more than 1,024 files or 16,777,216 bytes. Place: the start of the file that passes.
abbrev pub too_many_files : Rule
too_many_files = record { 0 = 610 }

-- Z11: a name is longer than 255 bytes. Place: the name.
abbrev pub name_too_long : Rule
name_too_long = record { 0 = 611 }

-- Z12: capacities, each inner link's raised to the limit of growth, add to more than 16,777,216. Place: the words.
abbrev pub grown_too_much : Rule
grown_too_much = record { 0 = 612 }

-- Z13: one period of a network of static actors has more than 16,777,216 firings. Place: the words.
abbrev pub period_too_long : Rule
period_too_long = record { 0 = 613 }

-- F1: the text isn't of the closed grammar of networks. Place: the first byte that can't follow, or the end.
abbrev pub spells_no_network : Rule
spells_no_network = record { 0 = 701 }

-- F2: an element is unknown in its place. Place: its `<`.
abbrev pub unknown_element : Rule
unknown_element = record { 0 = 702 }

-- F3: an attribute is missing, twice or not one of its values. Place: the element's `<`.
abbrev pub wrong_attribute : Rule
wrong_attribute = record { 0 = 703 }

-- F4: the encoding isn't UTF-8. Place: the declaration, or the first wrong byte.
abbrev pub wrong_encoding : Rule
wrong_encoding = record { 0 = 704 }

-- F5: elements nest above 64, or an expression above 256. Place: the element.
abbrev pub nests_too_deep : Rule
nests_too_deep = record { 0 = 705 }

-- N1: a class has no file. Place: its `Class`, or the words.
abbrev pub no_file : Rule
no_file = record { 0 = 801 }

-- N2: a parameter is unknown, given twice, or has neither value nor default. Place: its `Parameter`, the `Instance`, or the words.
abbrev pub wrong_parameter : Rule
wrong_parameter = record { 0 = 802 }

-- N3: a network holds itself, directly or indirectly. Place: one `Class` on the circle.
abbrev pub network_cycle : Rule
network_cycle = record { 0 = 803 }

-- N4: an instance's input or a network's own output has a second writer. Place: the second `Connection`.
abbrev pub second_writer : Rule
second_writer = record { 0 = 804 }

-- N5: an instance or port is unknown, or of the wrong direction. Place: the `Connection`.
abbrev pub unknown_end : Rule
unknown_end = record { 0 = 805 }

-- N6: a Boolean port meets another kind. Place: the `Connection`.
abbrev pub bool_meets_number : Rule
bool_meets_number = record { 0 = 806 }

-- N7: `src` and `dst` are both empty. Place: the `Connection`.
abbrev pub no_ends : Rule
no_ends = record { 0 = 807 }

-- N8: a port, declaration or instance is declared twice. Place: the second.
abbrev pub network_name_twice : Rule
network_name_twice = record { 0 = 808 }

-- N9: a `bufferSize` isn't a number from 1 to 1,048,576. Place: its `Attribute`.
abbrev pub wrong_buffer_size : Rule
wrong_buffer_size = record { 0 = 809 }

-- N10: a network declares a parameter behind a variable, which its text can't say. Place: the parameter.
abbrev pub parameter_behind_variable : Rule
parameter_behind_variable = record { 0 = 810 }

-- N11: the file that an edit names isn't found. Place: the edit's number among the words of edits.
abbrev pub edit_file_missing : Rule
edit_file_missing = record { 0 = 811 }

-- P1: a port word names no port that the command opens. Place: its number among the port words.
abbrev pub unknown_port : Rule
unknown_port = record { 0 = 901 }

-- P2: a port is named by two words. Place: the second's number.
abbrev pub port_twice : Rule
port_twice = record { 0 = 902 }
