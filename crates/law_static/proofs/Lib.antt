mod Behaviours
