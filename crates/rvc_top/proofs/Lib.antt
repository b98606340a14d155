mod Printed
mod Said
mod SameJob
